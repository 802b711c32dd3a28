-- Parts of a text that has a document, put together.
use Rattle.std.proofs.Common.{◌≡◌, ℕ, suc, ◌+◌, ◌-◌, ◌<◌, ◌≤◌, false, IsTrue, List, [], ◌∷◌, ◌++◌, length, Some, None, Result, Ok, Err, option_map, option_and_then, refl, sym, ap, ◌∙◌, arith}
use Rattle.std.proofs.lemmas.List.{drop_all}
use Rattle.std.specs.Str.{IsUtf8}
use Rattle.std.proofs.lemmas.Bool.{and_parts, and_from}
use Rattle.std.proofs.lemmas.Cmp.{nat_list_cmp_total}
use Rattle.std.specs.Ordering.{match_ordering, is_lt, ordering_reverse}
use Rattle.std.specs.declared.cmp.Ordering.{Ordering}
use Rattle.std.specs.declared.cmp.Ordering.TheVariants.{Less, Equal, Greater}
use Rattle.json.specs.Token.{Token, end_array, end_object, key, string}
use Rattle.json.specs.Json as json
use Rattle.json.specs.Json.{parse_map, after_end_array, read_key, if_last}
use Rattle.json.specs.Lex.{token, colon, comma, begins_colon, fresh, after_value, after_comma, punctuate, between, lex, tokens}
use Rattle.json.specs.Token as token
use Rattle.json.proofs.Grammar.{value_is, value-begin_array, value-begin_object, items_end, items_more, members_end, members_more, skip_value-shorter, left}
use Rattle.serde_json.specs.Data.{Data, null, boolean, number, string as text_value, array, object, Items, no_items, item, Members, no_members, member, put}
use Rattle.serde_json.specs.Read.{of_json, of_items, of_members, read, max_depth as max_levels}
use Rattle.jsonml_tree.specs.Data.{PlainAttr, PlainScalar, PlainTree, text, element, PlainContent, content, PlainTrees, no_trees, tree, tree_depth}
use Rattle.jsonml_tree.specs.Fits.{IsElement}
use Rattle.jsonml_tree.specs.Order.{text_cmp}
use Rattle.jsonml_tree.specs.WellFormed.{ascends, is_ascending, is_in_range, are_in_range}
use Rattle.jsonml_tree.specs.declared.limits.TheConstants.{GREATEST_DEPTH}
use Rattle.jsonml_text.specs.Document.{of_value, of_shape, unless_too_deep}
use Rattle.jsonml_text.specs.Kept.{AreAttrsKept}
use Rattle.jsonml_text.proofs.Levels.{found_at}
use Rattle.jsonml_text.specs.Spelled.{ShapeFault, and_then, mapped, scalar_at, attrs_at, item_at, items_at, content_at, root_of}
use Rattle.jsonml_text.specs.Texts.{IsScalarText, AreAttrTexts}
use Rattle.jsonml_text.specs.Straight.{lexemes, tokens_from, HasLexeme, HasString, HasKey, HasScalar, HasAttrs, HasItems, HasContent, HasTree, put_attr}
use Rattle.jsonml_text.proofs.Lexing.{tokens-string, tokens-key, tokens-begin_array, tokens-begin_object, tokens-end_object, tokens-comma, tokens-end_array}

-- members up to the end of their object, and the tokens behind it; put among those before, they spell these attributes
pub record HasMembers (depth : ℕ) (text : List ℕ) (at : ℕ) (before : Members) (xs : List PlainAttr) (rest : List Token) : Type 0 where
  pub parsed : json.Members
  pub members : Members
  pub of : of_members parsed before ≡ Some members
  pub spells : (place : List ℕ) → attrs_at place members ≡ Ok xs
  pub reads : (n : ℕ) → length (tokens_from after_value text at) ≤ n → json.members (json.value depth) n (tokens_from after_value text at) ≡ Some (parsed, rest)

-- ---- strings

pub HasString-lexeme : (d : List ℕ) (at : ℕ) (s : List ℕ) (end next : ℕ) → HasLexeme d at (token (string s)) end → lexemes d next ≡ lexemes d end → end ≤ next → next ≤ length d → begins_colon (lexemes d next) ≡ false → IsUtf8 s → HasString d at s next
HasString-lexeme d at s end next h same le within none utf8 =
    record {
      reads = λ p may. ap (punctuate p) (h.lexed ∙ ap (λ ls. token (string s) ∷ ls) (sym same)) ∙ tokens-string p s (lexemes d next) may none;
      utf8 = utf8;
      later = omega (arith, h.later);
      within = within;
    }

pub HasKey-lexemes : (d : List ℕ) (at : ℕ) (s : List ℕ) (end mid after next : ℕ) → HasLexeme d at (token (string s)) end → lexemes d mid ≡ lexemes d end → HasLexeme d mid colon after → lexemes d next ≡ lexemes d after
    → end ≤ mid → after ≤ next → next ≤ length d → IsUtf8 s → HasKey d at s next
HasKey-lexemes d at s end mid after next h same k again le more within utf8 =
    record {
      reads = λ p may. ap (punctuate p) (h.lexed ∙ ap (λ ls. token (string s) ∷ ls) (sym same ∙ k.lexed ∙ ap (λ ls. colon ∷ ls) (sym again))) ∙ tokens-key p s (lexemes d next) may;
      utf8 = utf8;
      later = omega (arith, h.later, k.later);
      within = within;
    }

pub HasTree-text : (depth : ℕ) (d : List ℕ) (at : ℕ) (s : List ℕ) (next : ℕ) → HasString d at s next → HasTree depth d at (text s) next
HasTree-text depth d at s next h =
    record {
      parsed = json.string s;
      value = text_value s;
      of = refl;
      spells = λ place. refl;
      reads = λ p may. ap (json.value depth) (h.reads p may) ∙ value_is depth (string s ∷ tokens_from after_value d next);
      later = h.later;
      within = h.within;
    }

-- ---- behind a value

pub comma_passed : (d : List ℕ) (at mid : ℕ) → HasLexeme d at comma (at + 1) → lexemes d mid ≡ lexemes d (at + 1) → tokens_from after_value d at ≡ tokens_from after_comma d mid
comma_passed d at mid h same = ap (punctuate after_value) h.lexed ∙ tokens-comma (lexemes d (at + 1)) ∙ ap (punctuate after_comma) (sym same)

pub bracket_passed : (d : List ℕ) (at next : ℕ) → HasLexeme d at (token end_array) (at + 1) → lexemes d next ≡ lexemes d (at + 1) → tokens_from after_value d at ≡ end_array ∷ tokens_from after_value d next
bracket_passed d at next h same = ap (punctuate after_value) h.lexed ∙ tokens-end_array (lexemes d (at + 1)) ∙ ap (λ ls. end_array ∷ punctuate after_value ls) (sym same)

pub brace_passed : (d : List ℕ) (at : ℕ) → HasLexeme d at (token end_object) (at + 1) → tokens_from after_value d at ≡ end_object ∷ tokens_from after_value d (at + 1)
brace_passed d at h = ap (punctuate after_value) h.lexed ∙ tokens-end_object after_value (lexemes d (at + 1)) refl

-- ---- items

-- no array ends where a value begins
not_closed : (depth : ℕ) (ts : List Token) (x : json.Json × List Token) → json.value depth ts ≡ Some x → after_end_array ts ≡ None
not_closed depth [] x e = refl
not_closed depth (token.begin_object ∷ ts) x e = refl
not_closed depth (token.end_object ∷ ts) x e = refl
not_closed depth (token.begin_array ∷ ts) x e = refl
not_closed depth (token.end_array ∷ ts) x e = let none : json.value depth (token.end_array ∷ ts) ≡ None = value_is depth (token.end_array ∷ ts) in absurd (cc)
not_closed depth (token.key s ∷ ts) x e = refl
not_closed depth (token.string s ∷ ts) x e = refl
not_closed depth (token.number s ∷ ts) x e = refl
not_closed depth (token.boolean b ∷ ts) x e = refl
not_closed depth (token.null ∷ ts) x e = refl
not_closed depth (token.bad ∷ ts) x e = refl

pub HasItems-end : (depth : ℕ) (d : List ℕ) (at : ℕ) (rest : List Token) → tokens_from after_value d at ≡ end_array ∷ rest → HasItems depth d at no_trees rest
HasItems-end depth d at rest e =
    record {
      parsed = json.no_items;
      items = no_items;
      of = refl;
      spells = λ place position. refl;
      reads = λ n le. items_end (json.value depth) n (tokens_from after_value d at) rest le (ap after_end_array e);
    }

-- one more value in front of items that are read
read_more : (depth n : ℕ) (ts r rest : List Token) (j : json.Json) (js : json.Items) → length ts ≤ n → json.value depth ts ≡ Some (j, r) → ((m : ℕ) → length r ≤ m → json.items (json.value depth) m r ≡ Some (js, rest))
    → json.items (json.value depth) n ts ≡ Some (json.item j js, rest)
read_more depth n ts r rest j js le e more =
    let less : length r < length ts = skip_value-shorter depth ts r (ap left e) in
    items_more (json.value depth) n ts r j (omega arith) (not_closed depth ts (j, r) e) e ∙ ap (parse_map (json.item j)) (more (n - 1) (omega arith))

of_more : (j : json.Json) (v : Data) (js : json.Items) (vs : Items) → of_json j ≡ Some v → of_items js ≡ Some vs → of_items (json.item j js) ≡ Some (item v vs)
of_more j v js vs e f = rw (e, f)

pub HasItems-more : (depth : ℕ) (d : List ℕ) (at mid : ℕ) (t : PlainTree) (next : ℕ) (ts : PlainTrees) (rest : List Token) → tokens_from after_value d at ≡ tokens_from after_comma d mid → HasTree depth d mid t next → HasItems depth d next ts rest
    → HasItems depth d at (tree t ts) rest
HasItems-more depth d at mid t next ts rest same h k =
    record {
      parsed = json.item h.parsed k.parsed;
      items = item h.value k.items;
      of = of_more h.parsed h.value k.parsed k.items h.of k.of;
      spells = λ place position.
          ap (λ r. and_then r (λ u. mapped (tree u) (items_at place (position + 1) k.items))) (h.spells (place ++ position ∷ []))
          ∙ ap (mapped (tree t)) (k.spells place (position + 1));
      reads = λ n le. read_more depth n (tokens_from after_value d at) (tokens_from after_value d next) rest h.parsed k.parsed le (ap (json.value depth) same ∙ h.reads after_comma refl) k.reads;
    }

-- ---- contents

no_first : (r : Result PlainTree ShapeFault) (q : Result PlainTrees ShapeFault) (ts : PlainTrees) → and_then r (λ t. mapped (tree t) q) ≡ Ok ts → and_then r (λ t. mapped (λ us. content [] (tree t us)) q) ≡ Ok (content [] ts)
no_first (Ok t) (Ok us) ts e = let same : tree t us ≡ ts = cc in ap (λ us. Ok (content [] us)) same
no_first (Ok t) (Err f) ts e = absurd (cc)
no_first (Err f) q ts e = absurd (cc)

without_attrs : (vs : Items) (ts : PlainTrees) (place : List ℕ) → items_at place 1 vs ≡ Ok ts → content_at place vs ≡ Ok (content [] ts)
without_attrs no_items ts place e = let same : no_trees ≡ ts = cc in ap (λ us. Ok (content [] us)) same
without_attrs (item null vs) ts place e = no_first (item_at (place ++ 1 ∷ []) null) (items_at place 2 vs) ts e
without_attrs (item (boolean b) vs) ts place e = no_first (item_at (place ++ 1 ∷ []) (boolean b)) (items_at place 2 vs) ts e
without_attrs (item (number n) vs) ts place e = no_first (item_at (place ++ 1 ∷ []) (number n)) (items_at place 2 vs) ts e
without_attrs (item (text_value s) vs) ts place e = no_first (item_at (place ++ 1 ∷ []) (text_value s)) (items_at place 2 vs) ts e
without_attrs (item (array us) vs) ts place e = no_first (item_at (place ++ 1 ∷ []) (array us)) (items_at place 2 vs) ts e
without_attrs (item (object ms) vs) ts place e = absurd (cc)

pub HasContent-items : (depth : ℕ) (d : List ℕ) (at : ℕ) (ts : PlainTrees) (rest : List Token) → HasItems depth d at ts rest → HasContent depth d at (content [] ts) rest
HasContent-items depth d at ts rest h =
    record { parsed = h.parsed; items = h.items; of = h.of; spells = λ place. without_attrs h.items ts place (h.spells place 1); reads = h.reads }

pub HasContent-attrs : (depth : ℕ) (d : List ℕ) (at mid : ℕ) (xs : List PlainAttr) (end next : ℕ) (ts : PlainTrees) (rest : List Token) → tokens_from after_value d at ≡ tokens_from after_comma d mid
    → HasAttrs depth d mid xs (tokens_from after_value d end) → lexemes d next ≡ lexemes d end → HasItems depth d next ts rest → HasContent depth d at (content xs ts) rest
HasContent-attrs depth d at mid xs end next ts rest same h again k =
    record {
      parsed = json.item (json.object h.parsed) k.parsed;
      items = item (object h.members) k.items;
      of = of_more (json.object h.parsed) (object h.members) k.parsed k.items (ap (option_map object) h.of) k.of;
      spells = λ place. ap (λ r. and_then r (λ ys. mapped (content ys) (items_at place 1 k.items))) (h.spells place) ∙ ap (mapped (content xs)) (k.spells place 1);
      reads = λ n le.
          read_more depth n (tokens_from after_value d at) (tokens_from after_value d next) rest (json.object h.parsed) k.parsed le
          (ap (json.value depth) same ∙ h.reads after_comma refl ∙ ap (λ ls. Some (json.object h.parsed, punctuate after_value ls)) (sym again)) k.reads;
    }

pub HasTree-element : (outer depth : ℕ) (d : List ℕ) (at begun named : ℕ) (tag : List ℕ) (inside : ℕ) (c : PlainContent) (next : ℕ) → outer ≡ depth + 1 → HasLexeme d at (token token.begin_array) begun → lexemes d named ≡ lexemes d begun
    → HasString d named tag inside → HasContent depth d inside c (tokens_from after_value d next) → at < next → next ≤ length d → HasTree outer d at (element tag c) next
HasTree-element outer depth d at begun named tag inside c next deep h same k held later within =
    let r = tokens_from after_value d inside in
    let ts = string tag ∷ r in
    record {
      parsed = json.array (json.item (json.string tag) held.parsed);
      value = array (item (text_value tag) held.items);
      of = ap (option_map array) (of_more (json.string tag) (text_value tag) held.parsed held.items refl held.of);
      spells = λ place. ap (mapped (element tag)) (held.spells place);
      reads = λ p may.
          let first : tokens_from p d at ≡ token.begin_array ∷ ts =
          ap (punctuate p) h.lexed ∙ tokens-begin_array p (lexemes d begun) may ∙ ap (λ ls. token.begin_array ∷ punctuate fresh ls) (sym same) ∙ ap (λ l. token.begin_array ∷ l) (k.reads fresh refl) in
          let less : outer - 1 ≡ depth = omega arith in
          ap (json.value outer) first ∙ value-begin_array outer ts (omega arith)
          ∙ ap (λ n. parse_map json.array (json.items (json.value n) (length ts) ts)) less
          ∙ ap (parse_map json.array) (read_more depth (length ts) ts r (tokens_from after_value d next) (json.string tag) held.parsed (omega arith) (value_is depth ts) held.reads);
      later = later;
      within = within;
    }

-- ---- attributes

-- one more attribute among those of an object
put_both : (place : List ℕ) (o : Ordering) (k l : List ℕ) (v w : Data) (ms more : Members) (x y : PlainScalar) (ys zs : List PlainAttr) → scalar_at place v ≡ Ok x → scalar_at place w ≡ Ok y → attrs_at place ms ≡ Ok ys → attrs_at place more ≡ Ok zs
    → attrs_at place (match_ordering o (member k v (member l w ms)) (member l v ms) (member l w more))
    ≡ Ok (match_ordering o (record { name = k; value = x } ∷ record { name = l; value = y } ∷ ys) (record { name = l; value = x } ∷ ys) (record { name = l; value = y } ∷ zs))
put_both place Less k l v w ms more x y ys zs a b c e = rw (a, b, c)
put_both place Equal k l v w ms more x y ys zs a b c e = rw (a, c)
put_both place Greater k l v w ms more x y ys zs a b c e = rw (b, e)

first_attr : (l : List ℕ) (r : Result PlainScalar ShapeFault) (q : Result (List PlainAttr) ShapeFault) (xs : List PlainAttr) → and_then r (λ value. mapped (λ ys. record { name = l; value = value } ∷ ys) q) ≡ Ok xs
    → (y : PlainScalar) × (ys : List PlainAttr) × (r ≡ Ok y) × (q ≡ Ok ys) × (xs ≡ record { name = l; value = y } ∷ ys)
first_attr l (Ok y) (Ok ys) xs e = (y, ys, refl, refl, cc)
first_attr l (Ok y) (Err f) xs e = absurd (cc)
first_attr l (Err f) q xs e = absurd (cc)

pub attrs_at-put : (place k : List ℕ) (v : Data) (x : PlainScalar) (ms : Members) (xs : List PlainAttr) → scalar_at place v ≡ Ok x → attrs_at place ms ≡ Ok xs → attrs_at place (put k v ms) ≡ Ok (put_attr (record { name = k; value = x }) xs)
attrs_at-put place k v x no_members xs a e =
    let none : [] ≡ xs = cc in
    rw a (ap (λ ys. Ok (put_attr (record { name = k; value = x }) ys)) none)
attrs_at-put place k v x (member l w ms) xs a e =
    let h = first_attr l (scalar_at place w) (attrs_at place ms) xs e in
    put_both place (text_cmp k l) k l v w ms (put k v ms) x h.0 h.1 (put_attr (record { name = k; value = x }) h.1) a h.2 h.3 (attrs_at-put place k v x ms h.1 a h.3)
    ∙ ap (λ ys. Ok (put_attr (record { name = k; value = x }) ys)) (sym h.4)

below_put : (o : Ordering) (last : List ℕ) (a x : PlainAttr) (xs more : List PlainAttr) → text_cmp a.name x.name ≡ o → IsTrue (is_lt (text_cmp last a.name)) → IsTrue (is_lt (text_cmp last x.name)) → IsTrue (ascends x.name xs)
    → (IsTrue (is_lt (text_cmp x.name a.name)) → IsTrue (ascends x.name more)) → IsTrue (ascends last (match_ordering o (a ∷ x ∷ xs) (record { name = x.name; value = a.value } ∷ xs) (x ∷ more)))
below_put Less last a x xs more e p q up f = and_from _ _ p (and_from _ _ (ap is_lt e) up)
below_put Equal last a x xs more e p q up f = and_from _ _ q up
below_put Greater last a x xs more e p q up f = and_from _ _ q (f (ap is_lt (nat_list_cmp_total.antisymm x.name a.name ∙ ap ordering_reverse e)))

ascends-put : (last : List ℕ) (a : PlainAttr) (xs : List PlainAttr) → IsTrue (is_lt (text_cmp last a.name)) → IsTrue (ascends last xs) → IsTrue (ascends last (put_attr a xs))
ascends-put last a [] p up = and_from _ _ p refl
ascends-put last a (x ∷ xs) p up =
    let both = and_parts (is_lt (text_cmp last x.name)) (ascends x.name xs) up in
    below_put (text_cmp a.name x.name) last a x xs (put_attr a xs) refl p both.0 both.1 (λ q. ascends-put x.name a xs q both.1)

among_put : (o : Ordering) (a x : PlainAttr) (xs more : List PlainAttr) → text_cmp a.name x.name ≡ o → IsTrue (ascends x.name xs) → (IsTrue (is_lt (text_cmp x.name a.name)) → IsTrue (ascends x.name more))
    → IsTrue (is_ascending (match_ordering o (a ∷ x ∷ xs) (record { name = x.name; value = a.value } ∷ xs) (x ∷ more)))
among_put Less a x xs more e up f = and_from _ _ (ap is_lt e) up
among_put Equal a x xs more e up f = up
among_put Greater a x xs more e up f = f (ap is_lt (nat_list_cmp_total.antisymm x.name a.name ∙ ap ordering_reverse e))

pub is_ascending-put : (a : PlainAttr) (xs : List PlainAttr) → IsTrue (is_ascending xs) → IsTrue (is_ascending (put_attr a xs))
is_ascending-put a [] up = refl
is_ascending-put a (x ∷ xs) up = among_put (text_cmp a.name x.name) a x xs (put_attr a xs) refl up (λ q. ascends-put x.name a xs q up)

range_put : (o : Ordering) (a x : PlainAttr) (xs more : List PlainAttr) → IsTrue (is_in_range a.value) → IsTrue (is_in_range x.value) → IsTrue (are_in_range xs) → IsTrue (are_in_range more)
    → IsTrue (are_in_range (match_ordering o (a ∷ x ∷ xs) (record { name = x.name; value = a.value } ∷ xs) (x ∷ more)))
range_put Less a x xs more p q h k = and_from _ _ p (and_from _ _ q h)
range_put Equal a x xs more p q h k = and_from _ _ p h
range_put Greater a x xs more p q h k = and_from _ _ q k

are_in_range-put : (a : PlainAttr) (xs : List PlainAttr) → IsTrue (is_in_range a.value) → IsTrue (are_in_range xs) → IsTrue (are_in_range (put_attr a xs))
are_in_range-put a [] p h = and_from _ _ p refl
are_in_range-put a (x ∷ xs) p h = let both = and_parts (is_in_range x.value) _ h in range_put (text_cmp a.name x.name) a x xs (put_attr a xs) p both.0 both.1 (are_in_range-put a xs p both.1)

texts_put : (o : Ordering) (a x : PlainAttr) (xs more : List PlainAttr) → IsUtf8 a.name → IsScalarText a.value → AreAttrTexts (x ∷ xs) → AreAttrTexts more
    → AreAttrTexts (match_ordering o (a ∷ x ∷ xs) (record { name = x.name; value = a.value } ∷ xs) (x ∷ more))
texts_put Less a x xs more n v h k = (n, v, h)
texts_put Equal a x xs more n v h k = (h.0, v, h.2)
texts_put Greater a x xs more n v h k = (h.0, h.1, k)

are_texts-put : (a : PlainAttr) (xs : List PlainAttr) → IsUtf8 a.name → IsScalarText a.value → AreAttrTexts xs → AreAttrTexts (put_attr a xs)
are_texts-put a [] n v h = (n, v, tt)
are_texts-put a (x ∷ xs) n v h = texts_put (text_cmp a.name x.name) a x xs (put_attr a xs) n v h (are_texts-put a xs n v h.2)

pub AreAttrsKept-put : (a : PlainAttr) (xs : List PlainAttr) → IsTrue (is_in_range a.value) → IsUtf8 a.name → IsScalarText a.value → AreAttrsKept xs → AreAttrsKept (put_attr a xs)
AreAttrsKept-put a xs p n v h = record { ascending = is_ascending-put a xs h.ascending; in_range = are_in_range-put a xs p h.in_range; texts = are_texts-put a xs n v h.texts }

-- ---- objects

of_member : (k : List ℕ) (j : json.Json) (v : Data) (js : json.Members) (before : Members) → of_json j ≡ Some v → of_members (json.member k j js) before ≡ of_members js (put k v before)
of_member k j v js before e = rw e

-- one more member in front of those that are read
read_member : (depth n : ℕ) (k : List ℕ) (ts s r rest : List Token) (j : json.Json) (js : json.Members) → length ts ≤ n → ts ≡ key k ∷ s → json.value depth s ≡ Some (j, r) → ((m : ℕ) → length r ≤ m → json.members (json.value depth) m r ≡ Some (js, rest))
    → json.members (json.value depth) n ts ≡ Some (json.member k j js, rest)
read_member depth n k ts s r rest j js le is e more =
    let less : length r < length s = skip_value-shorter depth s r (ap left e) in
    let long : length ts ≡ suc (length s) = ap length is in
    members_more (json.value depth) n k ts s r j (omega arith) (ap read_key is) e ∙ ap (parse_map (json.member k j)) (more (n - 1) (omega arith))

pub HasMembers-end : (depth : ℕ) (d : List ℕ) (at : ℕ) (before : Members) (xs : List PlainAttr) (rest : List Token) → ((place : List ℕ) → attrs_at place before ≡ Ok xs) → tokens_from after_value d at ≡ end_object ∷ rest
    → HasMembers depth d at before xs rest
HasMembers-end depth d at before xs rest h e =
    record {
      parsed = json.no_members;
      members = before;
      of = refl;
      spells = h;
      reads = λ n le. members_end (json.value depth) n (tokens_from after_value d at) rest le (ap read_key e);
    }

pub HasMembers-more : (depth : ℕ) (d : List ℕ) (at mid : ℕ) (k : List ℕ) (begun : ℕ) (x : PlainScalar) (next : ℕ) (before : Members) (xs : List PlainAttr) (rest : List Token) → tokens_from after_value d at ≡ tokens_from after_comma d mid → HasKey d mid k begun
    → (h : HasScalar d begun x next) → HasMembers depth d next (put k h.value before) xs rest → HasMembers depth d at before xs rest
HasMembers-more depth d at mid k begun x next before xs rest same named h more =
    record {
      parsed = json.member k h.parsed more.parsed;
      members = more.members;
      of = of_member k h.parsed h.value more.parsed before h.of ∙ more.of;
      spells = more.spells;
      reads = λ n le. read_member depth n k (tokens_from after_value d at) (tokens_from fresh d begun) (tokens_from after_value d next) rest h.parsed more.parsed le (same ∙ named.reads after_comma refl) (h.reads depth) more.reads;
    }

pub HasAttrs-none : (outer depth : ℕ) (d : List ℕ) (at begun mid next : ℕ) → outer ≡ depth + 1 → HasLexeme d at (token token.begin_object) begun → lexemes d mid ≡ lexemes d begun → HasLexeme d mid (token end_object) next
    → HasAttrs outer d at [] (tokens_from after_value d next)
HasAttrs-none outer depth d at begun mid next deep h same k =
    record {
      parsed = json.no_members;
      members = no_members;
      of = refl;
      spells = λ place. refl;
      reads = λ p may.
          let ts = end_object ∷ tokens_from after_value d next in
          let first : tokens_from p d at ≡ token.begin_object ∷ ts =
          ap (punctuate p) h.lexed ∙ tokens-begin_object p (lexemes d begun) may ∙ ap (λ ls. token.begin_object ∷ punctuate fresh ls) (sym same ∙ k.lexed)
          ∙ ap (λ l. token.begin_object ∷ l) (tokens-end_object fresh (lexemes d next) refl) in
          ap (json.value outer) first ∙ value-begin_object outer ts (omega arith) ∙ ap (parse_map json.object) (members_end (json.value (outer - 1)) (length ts) ts (tokens_from after_value d next) (omega arith) refl);
    }

pub HasAttrs-members : (outer depth : ℕ) (d : List ℕ) (at begun mid : ℕ) (k : List ℕ) (named : ℕ) (x : PlainScalar) (next : ℕ) (xs : List PlainAttr) (rest : List Token) → outer ≡ depth + 1 → HasLexeme d at (token token.begin_object) begun
    → lexemes d mid ≡ lexemes d begun → HasKey d mid k named → (h : HasScalar d named x next) → HasMembers depth d next (put k h.value no_members) xs rest → HasAttrs outer d at xs rest
HasAttrs-members outer depth d at begun mid k named x next xs rest deep l same name h more =
    let s = tokens_from fresh d named in
    let ts = key k ∷ s in
    record {
      parsed = json.member k h.parsed more.parsed;
      members = more.members;
      of = of_member k h.parsed h.value more.parsed no_members h.of ∙ more.of;
      spells = more.spells;
      reads = λ p may.
          let first : tokens_from p d at ≡ token.begin_object ∷ ts =
          ap (punctuate p) l.lexed ∙ tokens-begin_object p (lexemes d begun) may ∙ ap (λ ls. token.begin_object ∷ punctuate fresh ls) (sym same) ∙ ap (λ r. token.begin_object ∷ r) (name.reads fresh refl) in
          let less : outer - 1 ≡ depth = omega arith in
          ap (json.value outer) first ∙ value-begin_object outer ts (omega arith) ∙ ap (λ n. parse_map json.object (json.members (json.value n) (length ts) ts)) less
          ∙ ap (parse_map json.object) (read_member depth (length ts) k ts s (tokens_from after_value d next) rest h.parsed more.parsed (omega arith) refl (h.reads depth) more.reads);
    }

-- ---- whole texts

root_item : (v : Data) (t : PlainTree) → item_at [] v ≡ Ok t → IsElement t → root_of v ≡ Ok t
root_item null t e h = absurd (cc)
root_item (boolean b) t e h = absurd (cc)
root_item (number n) t e h = absurd (cc)
root_item (text_value s) (text u) e h = absurd (cc)
root_item (text_value s) (element u c) e h = absurd (cc)
root_item (array vs) t e h = e
root_item (object ms) t e h = absurd (cc)

pub document_read : (d : List ℕ) (at : ℕ) (t : PlainTree) → lexemes d at ≡ lexemes d 0 → HasTree max_levels d at t (length d) → IsElement t → tree_depth t ≤ GREATEST_DEPTH → of_value (read d) ≡ Ok t
unfolding lex punctuate
document_read d at t same h is shallow =
    let nothing : tokens_from after_value d (length d) ≡ [] = ap (λ l. punctuate after_value (lex between l)) (drop_all (length d) d (omega arith)) in
    let first : json.value max_levels (tokens d) ≡ Some (h.parsed, []) =
    ap (λ ls. json.value max_levels (punctuate fresh ls)) (sym same) ∙ h.reads fresh refl ∙ ap (λ r. Some (h.parsed, r)) nothing in
    let whole : read d ≡ Some h.value = ap (λ o. option_and_then of_json (option_and_then (λ p. if_last p.0 p.1) o)) first ∙ h.of in
    ap of_value whole ∙ ap of_shape (root_item h.value t (h.spells []) is) ∙ ap (unless_too_deep t) (found_at [] t (omega arith))
