-- The canonical text is cut into lines that give its rules.
use Rattle.std.proofs.Common.{◌≡◌, ℕ, ◌+◌, ◌-◌, ◌<◌, Bool, true, false, not, ◌&&◌, List, [], ◌∷◌, ◌++◌, length, ltb, eqb, map, flat_map, get_or, refl, ap, sym, ◌∙◌, arith, Option, Some, None, codes, IsUtf8, append_assoc, option_map, length-append, IfSome, inl, inr}
use Rattle.std.proofs.lemmas.Bool.{cond-true, cond-false, and_parts, and_from, eqb-true, false_from_ne_true, not-true, not_from_false, ltb-true, or_from}
use Rattle.std.proofs.lemmas.List.Folds.{list_all-append}
use Rattle.std.proofs.lemmas.List.Splits.{slice_split_at}
use Rattle.std.proofs.lemmas.List.Sums.{AllPass-from_list_all}
use Rattle.std.proofs.lemmas.Str.{IsUtf8-append, IsUtf8-from_ascii, IsUtf8-nil, is_utf8-from_IsUtf8}
use Rattle.std.proofs.lemmas.Str.Ascii.{IsAscii-from_all}
use Rattle.std.specs.List.{list_all, slice_split, AllByRecursion, cons_option}
use Rattle.std.specs.Option.{option_or}
use Rattle.std.specs.Str.{is_utf8}
use Rattle.std.specs.Str.Lines.{strip_carriage_return}
use Rattle.key_spec.specs.Data.{PlainPath, PlainRule, GivenRule}
use Rattle.key_spec.specs.Names.{is_name, is_name_byte, slashed, context_text, context_of, ends_text, path_text, path_of, is_optional_name, is_named_path, is_named}
use Rattle.key_spec.specs.Lines.{lines, filled}
use Rattle.key_spec.specs.Form.{Token, sign, word, tokens, is_word_byte, begins_word, word_with, first_as, name_of, some_paths, paths_of, head_of, spelled, line_rule}
use Rattle.key_spec.specs.Canonical.{paths_text, rule_text, canonical}
use Rattle.key_spec.specs.Closed.{numbered, given_rules, rule_why, line_fault, first_of_all, paths_why}
use Rattle.key_spec.proofs.FormLemmas.{some_paths-last, some_paths-more}
use Rattle.key_spec.proofs.LineLemmas.{slice_split-cons, filled-cons}
use Rattle.key_spec.proofs.Members.{In}
use Rattle.key_spec.proofs.NameLaws.{name-some, name-bytes, context_of-text, path_of-text}
use Rattle.key_spec.proofs.TokenLemmas.{tokens-sign, tokens-blank, tokens-inside}

-- ---- the bytes of a rule's text

-- each byte of names and of the marks between them passes a test
module _ (p : ℕ → Bool) (in_name : (b : ℕ) → is_name_byte b ≡ true → p b ≡ true) (slash : p 47 ≡ true) (at : p 64 ≡ true) (dot : p 46 ≡ true) where
  pub pass-bytes : (bytes : List ℕ) → list_all is_name_byte bytes ≡ true → list_all p bytes ≡ true
  pass-bytes [] e = refl
  pass-bytes (b ∷ bs) e = let both = and_parts (is_name_byte b) (list_all is_name_byte bs) e in and_from _ _ (in_name b both.0) (pass-bytes bs both.1)

  pub pass-name : (name : List ℕ) → is_name name ≡ true → list_all p name ≡ true
  pass-name name e = pass-bytes name (name-bytes name e)

  pass-append : (xs ys : List ℕ) → list_all p xs ≡ true → list_all p ys ≡ true → list_all p (xs ++ ys) ≡ true
  pass-append xs ys a b = list_all-append p xs ys ∙ and_from _ _ a b

  pass-slashed : (names : List (List ℕ)) → list_all is_name names ≡ true → list_all p (slashed names) ≡ true
  pass-slashed [] e = refl
  pass-slashed (name ∷ names) e =
      let both = and_parts (is_name name) (list_all is_name names) e in
      and_from _ _ slash (pass-append name (slashed names) (pass-name name both.0) (pass-slashed names both.1))

  pub pass-context : (context : List (List ℕ)) → list_all is_name context ≡ true → list_all p (context_text context) ≡ true
  pass-context [] e = and_from _ _ slash refl
  pass-context (name ∷ names) e = pass-slashed (name ∷ names) e

  pass-ends : (tags : List (List ℕ)) (attr : Option (List ℕ)) → list_all is_name tags ≡ true → is_optional_name attr ≡ true → list_all p (ends_text tags attr) ≡ true
  pass-ends [] None e f = and_from _ _ dot refl
  pass-ends (tag ∷ tags) None e f = let both = and_parts (is_name tag) (list_all is_name tags) e in pass-append tag (slashed tags) (pass-name tag both.0) (pass-slashed tags both.1)
  pass-ends [] (Some name) e f = and_from _ _ at (pass-name name f)
  pass-ends (tag ∷ tags) (Some name) e f =
      let both = and_parts (is_name tag) (list_all is_name tags) e in
      pass-append tag _ (pass-name tag both.0) (pass-append (slashed tags) _ (pass-slashed tags both.1) (and_from _ _ slash (and_from _ _ at (pass-name name f))))

  pub pass-path : (path : PlainPath) → is_named_path path ≡ true → list_all p (path_text path) ≡ true
  pass-path path e = let both = and_parts (list_all is_name path.tags) (is_optional_name path.attr) e in pass-ends path.tags path.attr both.0 both.1

  module _ (before : p 40 ≡ true) (after : p 41 ≡ true) (comma : p 44 ≡ true) (space : p 32 ≡ true) (brace : p 123 ≡ true) (end : p 125 ≡ true) where
    pass-others : (paths : List PlainPath) → list_all is_named_path paths ≡ true → list_all p (flat_map (λ other. codes ", " ++ path_text other) paths) ≡ true
    pass-others [] e = refl
    pass-others (path ∷ paths) e =
        let both = and_parts (is_named_path path) (list_all is_named_path paths) e in
        and_from _ _ comma (and_from _ _ space (pass-append (path_text path) _ (pass-path path both.0) (pass-others paths both.1)))

    pass-paths : (paths : List PlainPath) → list_all is_named_path paths ≡ true → list_all p (paths_text paths) ≡ true
    pass-paths [] e = refl
    pass-paths (path ∷ paths) e = let both = and_parts (is_named_path path) (list_all is_named_path paths) e in pass-append (path_text path) _ (pass-path path both.0) (pass-others paths both.1)

    pub pass-rule : (rule : PlainRule) → is_named rule ≡ true → list_all p (rule_text rule) ≡ true
    pass-rule rule e =
        let parts = and_parts (list_all is_name rule.context && is_name rule.tag) (list_all is_named_path rule.paths) e in
        let place = and_parts (list_all is_name rule.context) (is_name rule.tag) parts.0 in
        and_from _ _ before (pass-append (context_text rule.context) _ (pass-context rule.context place.0)
        (and_from _ _ comma (and_from _ _ space (and_from _ _ before (pass-append rule.tag _ (pass-name rule.tag place.1)
        (and_from _ _ comma (and_from _ _ space (and_from _ _ brace (pass-append (paths_text rule.paths) _ (pass-paths rule.paths parts.1)
        (and_from _ _ end (and_from _ _ after (and_from _ _ after refl))))))))))))

-- ---- lines

apart : (c : ℕ) → is_name_byte c ≡ false → (b : ℕ) → is_name_byte b ≡ true → not (eqb b c) ≡ true
apart c never b may = not_from_false _ (false_from_ne_true (eqb b c) (λ same. let e : is_name_byte b ≡ is_name_byte c = ap is_name_byte (eqb-true b c same) in cc))

no_feed : (rule : PlainRule) → is_named rule ≡ true → list_all (λ b. not (eqb b 10)) (rule_text rule) ≡ true
no_feed rule e = pass-rule (λ b. not (eqb b 10)) (apart 10 refl) refl refl refl refl refl refl refl refl refl rule e

no_return : (rule : PlainRule) → is_named rule ≡ true → list_all (λ b. not (eqb b 13)) (rule_text rule) ≡ true
no_return rule e = pass-rule (λ b. not (eqb b 13)) (apart 13 refl) refl refl refl refl refl refl refl refl refl rule e

strip-none : (l : List ℕ) → 0 < length l → list_all (λ b. not (eqb b 13)) l ≡ true → strip_carriage_return l ≡ l
strip-none l some e =
    let last : not (eqb (get_or l (length l - 1) 0) 13) ≡ true = AllPass-from_list_all (λ b. not (eqb b 13)) l e (length l - 1) 0 (omega arith) in
    cond-false (eqb (get_or l (length l - 1) 0) 13) _ _ (not-true _ last)

-- the first line of the canonical text is that of the first rule
pub lines-canonical : (rule : PlainRule) (rules : List PlainRule) → is_named rule ≡ true → lines (canonical (rule ∷ rules)) ≡ rule_text rule ∷ lines (canonical rules)
unfolding canonical
lines-canonical rule rules e =
    let line = rule_text rule in
    let rest = canonical rules in
    let passes = AllPass-from_list_all (λ b. not (eqb b 10)) line (no_feed rule e) in
    let cut : slice_split (λ b. eqb b 10) ((line ++ 10 ∷ []) ++ rest) ≡ line ∷ slice_split (λ b. eqb b 10) rest =
    ap (slice_split (λ b. eqb b 10)) (append_assoc line (10 ∷ []) rest) ∙ slice_split_at (λ b. eqb b 10) line 10 rest (λ k d l. not-true _ (passes k d l)) refl in
    let more = slice_split-cons (λ b. eqb b 10) rest in
    ap (λ parts. map strip_carriage_return (filled parts)) cut
    ∙ ap (map strip_carriage_return) (filled-cons line (slice_split (λ b. eqb b 10) rest) more.0 more.1 more.2)
    ∙ ap (λ l. l ∷ lines rest) (strip-none line (omega arith) (no_return rule e))

lines-none : lines (canonical []) ≡ []
unfolding canonical
lines-none = refl

-- ---- tokens

-- bytes of a word, up to what is no such byte
tokens-run : (bytes rest : List ℕ) → 0 < length bytes → list_all is_word_byte bytes ≡ true → begins_word rest ≡ false → tokens (bytes ++ rest) ≡ word bytes ∷ tokens rest
tokens-run [] rest some e f = absurd (omega arith)
tokens-run (b ∷ []) rest some e f =
    let both = and_parts (is_word_byte b) true e in
    tokens-inside b rest both.0 ∙ ap (λ t. word_with b t (tokens rest)) f
tokens-run (b ∷ c ∷ cs) rest some e f =
    let both = and_parts (is_word_byte b) (is_word_byte c && list_all is_word_byte cs) e in
    tokens-inside b (c ∷ (cs ++ rest)) both.0 ∙ ap (λ t. word_with b t (tokens (c ∷ (cs ++ rest)))) (and_parts (is_word_byte c) (list_all is_word_byte cs) both.1).0
    ∙ ap (word_with b true) (tokens-run (c ∷ cs) rest (omega arith) both.1 f)

differs : (c : ℕ) → is_name_byte c ≡ false → (b : ℕ) → is_name_byte b ≡ true → eqb b c ≡ false
differs c never b may = not-true _ (apart c never b may)

in_word : (b : ℕ) → is_name_byte b ≡ true → is_word_byte b ≡ true
in_word b may =
    and_from _ _ (not_from_false _ (or_from (eqb b 32) (eqb b 9) (differs 32 refl b may) (differs 9 refl b may)))
    (not_from_false _ (or_from _ _ (or_from _ _ (or_from _ _ (or_from (eqb b 40) (eqb b 41) (differs 40 refl b may) (differs 41 refl b may)) (differs 123 refl b may)) (differs 125 refl b may)) (differs 44 refl b may)))

context-some : (context : List (List ℕ)) → 0 < length (context_text context)
context-some [] = omega arith
context-some (name ∷ names) = omega arith

ends-some : (tags : List (List ℕ)) (attr : Option (List ℕ)) → list_all is_name tags ≡ true → 0 < length (ends_text tags attr)
ends-some [] None e = omega arith
ends-some (tag ∷ tags) None e = let n = name-some tag (and_parts (is_name tag) (list_all is_name tags) e).0 in omega (arith, length-append tag (slashed tags), n)
ends-some [] (Some name) e = omega arith
ends-some (tag ∷ tags) (Some name) e =
    let n = name-some tag (and_parts (is_name tag) (list_all is_name tags) e).0 in omega (arith, length-append tag (slashed tags ++ (codes "/@" ++ name)), n)

path-some : (path : PlainPath) → is_named_path path ≡ true → 0 < length (path_text path)
path-some path e = ends-some path.tags path.attr (and_parts (list_all is_name path.tags) (is_optional_name path.attr) e).0

path-word : (path : PlainPath) → is_named_path path ≡ true → list_all is_word_byte (path_text path) ≡ true
path-word = pass-path is_word_byte in_word refl refl refl

-- ---- key paths

abbrev others_text : List PlainPath → List ℕ
others_text paths = flat_map (λ other. codes ", " ++ path_text other) paths

first_path : (path : PlainPath) (us : List Token) → is_named_path path ≡ true → first_as path_of (word (path_text path) ∷ us) ≡ Some (path, us)
first_path path us e = ap (option_map (λ x. (x, us))) (path_of-text path e)

-- key paths with commas between them, up to the brace
paths_read : (path : PlainPath) (more : List PlainPath) → is_named_path path ≡ true → list_all is_named_path more ≡ true
    → some_paths (tokens (path_text path ++ (others_text more ++ codes "}))"))) ≡ Some (path ∷ more, sign 41 ∷ sign 41 ∷ [])
paths_read path [] one all =
    let us : List Token = sign 125 ∷ sign 41 ∷ sign 41 ∷ [] in
    let read : tokens (path_text path ++ codes "}))") ≡ word (path_text path) ∷ us = tokens-run (path_text path) (codes "}))") (path-some path one) (path-word path one) refl in
    ap some_paths read ∙ some_paths-last (word (path_text path) ∷ us) path us (sign 41 ∷ sign 41 ∷ []) (first_path path us one) refl
paths_read path (next ∷ more) one all =
    let both = and_parts (is_named_path next) (list_all is_named_path more) all in
    let rest = path_text next ++ (others_text more ++ codes "}))") in
    let us = sign 44 ∷ tokens rest in
    let regrouped : others_text (next ∷ more) ++ codes "}))" ≡ 44 ∷ 32 ∷ rest = ap (λ bs. 44 ∷ 32 ∷ bs) (append_assoc (path_text next) (others_text more) (codes "}))")) in
    let read : tokens (path_text path ++ (others_text (next ∷ more) ++ codes "}))")) ≡ word (path_text path) ∷ us =
    ap (λ bs. tokens (path_text path ++ bs)) regrouped ∙ tokens-run (path_text path) (44 ∷ 32 ∷ rest) (path-some path one) (path-word path one) refl
    ∙ ap (λ ts. word (path_text path) ∷ ts) (tokens-sign 44 (32 ∷ rest) refl ∙ ap (λ ts. sign 44 ∷ ts) (tokens-blank 32 rest refl)) in
    ap some_paths read ∙ some_paths-more (word (path_text path) ∷ us) path us (tokens rest) (first_path path us one) refl
    ∙ ap (option_map (λ (o : List PlainPath × List Token). (path ∷ o.0, o.1))) (paths_read next more both.0 both.1)

paths_of-some : (bytes : List ℕ) (ts us : List Token) → ts ≡ word bytes ∷ us → paths_of ts ≡ some_paths ts
paths_of-some bytes ts us e = ap paths_of e ∙ ap some_paths (sym e)

paths_of-text : (paths : List PlainPath) → list_all is_named_path paths ≡ true → paths_of (tokens (paths_text paths ++ codes "}))")) ≡ Some (paths, sign 41 ∷ sign 41 ∷ [])
paths_of-text [] e = refl
paths_of-text (path ∷ more) e =
    let both = and_parts (is_named_path path) (list_all is_named_path more) e in
    let regrouped : (path_text path ++ others_text more) ++ codes "}))" ≡ path_text path ++ (others_text more ++ codes "}))") = append_assoc (path_text path) (others_text more) (codes "}))") in
    let read = tokens-run (path_text path) (others_text more ++ codes "}))") (path-some path both.0) (path-word path both.0) (begins more) in
    ap (λ bs. paths_of (tokens bs)) regrouped ∙ paths_of-some _ _ _ read ∙ paths_read path more both.0 both.1
  where
    begins : (ps : List PlainPath) → begins_word (others_text ps ++ codes "}))") ≡ false
    begins [] = refl
    begins (p ∷ ps) = refl

-- ---- the rule

head_of-tokens : (context : List (List ℕ)) (text tag : List ℕ) (us : List Token) → context_of text ≡ Some context → name_of tag ≡ Some tag
    → head_of (sign 40 ∷ word text ∷ sign 44 ∷ sign 40 ∷ word tag ∷ sign 44 ∷ sign 123 ∷ us) ≡ Some ((context, tag), us)
head_of-tokens context text tag us e f = rw (e, f) refl

rule_tokens : (rule : PlainRule) → is_named rule ≡ true
    → tokens (rule_text rule) ≡ sign 40 ∷ word (context_text rule.context) ∷ sign 44 ∷ sign 40 ∷ word rule.tag ∷ sign 44 ∷ sign 123 ∷ tokens (paths_text rule.paths ++ codes "}))")
rule_tokens rule e =
    let parts = and_parts (list_all is_name rule.context && is_name rule.tag) (list_all is_named_path rule.paths) e in
    let place = and_parts (list_all is_name rule.context) (is_name rule.tag) parts.0 in
    let paths = paths_text rule.paths ++ codes "}))" in
    let behind_tag = 44 ∷ 32 ∷ 123 ∷ paths in
    let behind_context = 44 ∷ 32 ∷ 40 ∷ (rule.tag ++ behind_tag) in
    let tag_read : tokens (rule.tag ++ behind_tag) ≡ word rule.tag ∷ sign 44 ∷ sign 123 ∷ tokens paths =
    tokens-run rule.tag behind_tag (name-some rule.tag place.1) (pass-name is_word_byte in_word refl refl refl rule.tag place.1) refl
    ∙ ap (λ ts. word rule.tag ∷ ts) (tokens-sign 44 (32 ∷ 123 ∷ paths) refl ∙ ap (λ ts. sign 44 ∷ ts) (tokens-blank 32 (123 ∷ paths) refl ∙ tokens-sign 123 paths refl)) in
    let context_read : tokens (context_text rule.context ++ behind_context) ≡ word (context_text rule.context) ∷ sign 44 ∷ sign 40 ∷ tokens (rule.tag ++ behind_tag) =
    tokens-run (context_text rule.context) behind_context (context-some rule.context) (pass-context is_word_byte in_word refl refl refl rule.context place.0) refl
    ∙ ap (λ ts. word (context_text rule.context) ∷ ts) (tokens-sign 44 (32 ∷ 40 ∷ (rule.tag ++ behind_tag)) refl ∙ ap (λ ts. sign 44 ∷ ts) (tokens-blank 32 (40 ∷ (rule.tag ++ behind_tag)) refl ∙ tokens-sign 40 (rule.tag ++ behind_tag) refl)) in
    tokens-sign 40 (context_text rule.context ++ behind_context) refl
    ∙ ap (λ ts. sign 40 ∷ ts) (context_read ∙ ap (λ ts. word (context_text rule.context) ∷ sign 44 ∷ sign 40 ∷ ts) tag_read)

spelled-tokens : (context : List (List ℕ)) (tag : List ℕ) (paths : List PlainPath) (ts us : List Token) → head_of ts ≡ Some ((context, tag), us) → paths_of us ≡ Some (paths, sign 41 ∷ sign 41 ∷ [])
    → spelled ts ≡ Some (record { context = context; tag = tag; paths = paths })
spelled-tokens context tag paths ts us e f = rw (e, f) refl

pub spelled-text : (rule : PlainRule) → is_named rule ≡ true → spelled (tokens (rule_text rule)) ≡ Some rule
spelled-text rule e =
    let parts = and_parts (list_all is_name rule.context && is_name rule.tag) (list_all is_named_path rule.paths) e in
    let place = and_parts (list_all is_name rule.context) (is_name rule.tag) parts.0 in
    let name : name_of rule.tag ≡ Some rule.tag = cond-true (is_name rule.tag) (Some rule.tag) None place.1 in
    let us = tokens (paths_text rule.paths ++ codes "}))") in
    let ts = sign 40 ∷ word (context_text rule.context) ∷ sign 44 ∷ sign 40 ∷ word rule.tag ∷ sign 44 ∷ sign 123 ∷ us in
    ap spelled (rule_tokens rule e)
    ∙ spelled-tokens rule.context rule.tag rule.paths ts us (head_of-tokens rule.context (context_text rule.context) rule.tag us (context_of-text rule.context place.0) name) (paths_of-text rule.paths parts.1)

-- ---- UTF-8

-- the texts of a rule are UTF-8
pub record IsTextPath (path : PlainPath) : Type 0 where
  pub tags : AllByRecursion IsUtf8 path.tags
  pub attr : IfSome path.attr IsUtf8

pub record IsText (rule : PlainRule) : Type 0 where
  pub context : AllByRecursion IsUtf8 rule.context
  pub tag : IsUtf8 rule.tag
  pub paths : AllByRecursion IsTextPath rule.paths

ascii : (bs : List ℕ) → list_all (λ b. ltb b 128) bs ≡ true → IsUtf8 bs
ascii bs e = IsUtf8-from_ascii bs (IsAscii-from_all bs (λ k d l. ltb-true _ 128 (AllPass-from_list_all (λ b. ltb b 128) bs e k d l)))

utf8-slashed : (names : List (List ℕ)) → AllByRecursion IsUtf8 names → IsUtf8 (slashed names)
utf8-slashed [] all = IsUtf8-nil
utf8-slashed (name ∷ names) all = IsUtf8-append (codes "/" ++ name) (slashed names) (IsUtf8-append (codes "/") name (ascii (codes "/") refl) all.0) (utf8-slashed names all.1)

utf8-context : (context : List (List ℕ)) → AllByRecursion IsUtf8 context → IsUtf8 (context_text context)
utf8-context [] all = ascii (codes "/") refl
utf8-context (name ∷ names) all = utf8-slashed (name ∷ names) all

utf8-ends : (tags : List (List ℕ)) (attr : Option (List ℕ)) → AllByRecursion IsUtf8 tags → IfSome attr IsUtf8 → IsUtf8 (ends_text tags attr)
utf8-ends [] None all one = ascii (codes ".") refl
utf8-ends (tag ∷ tags) None all one = IsUtf8-append tag (slashed tags) all.0 (utf8-slashed tags all.1)
utf8-ends [] (Some name) all one = IsUtf8-append (codes "@") name (ascii (codes "@") refl) one
utf8-ends (tag ∷ tags) (Some name) all one =
    IsUtf8-append tag (slashed tags ++ (codes "/@" ++ name)) all.0 (IsUtf8-append (slashed tags) (codes "/@" ++ name) (utf8-slashed tags all.1) (IsUtf8-append (codes "/@") name (ascii (codes "/@") refl) one))

utf8-others : (paths : List PlainPath) → AllByRecursion IsTextPath paths → IsUtf8 (others_text paths)
utf8-others [] all = IsUtf8-nil
utf8-others (path ∷ paths) all =
    IsUtf8-append (codes ", " ++ path_text path) (others_text paths) (IsUtf8-append (codes ", ") (path_text path) (ascii (codes ", ") refl) (utf8-ends path.tags path.attr all.0.tags all.0.attr)) (utf8-others paths all.1)

utf8-paths : (paths : List PlainPath) → AllByRecursion IsTextPath paths → IsUtf8 (paths_text paths)
utf8-paths [] all = IsUtf8-nil
utf8-paths (path ∷ paths) all = IsUtf8-append (path_text path) (others_text paths) (utf8-ends path.tags path.attr all.0.tags all.0.attr) (utf8-others paths all.1)

utf8-rule : (rule : PlainRule) → IsText rule → IsUtf8 (rule_text rule)
utf8-rule rule t =
    IsUtf8-append (codes "(") _ (ascii (codes "(") refl) (IsUtf8-append (context_text rule.context) _ (utf8-context rule.context t.context)
    (IsUtf8-append (codes ", (") _ (ascii (codes ", (") refl) (IsUtf8-append rule.tag _ t.tag
    (IsUtf8-append (codes ", {") _ (ascii (codes ", {") refl) (IsUtf8-append (paths_text rule.paths) (codes "}))") (utf8-paths rule.paths t.paths) (ascii (codes "}))") refl))))))

-- the line of a rule gives the rule
pub line_rule-text : (rule : PlainRule) → is_named rule ≡ true → IsText rule → line_rule (rule_text rule) ≡ Some rule
unfolding line_rule
line_rule-text rule e t = cond-true (is_utf8 (rule_text rule)) (spelled (tokens (rule_text rule))) None (is_utf8-from_IsUtf8 (rule_text rule) (utf8-rule rule t)) ∙ spelled-text rule e

-- ---- all lines

-- rules on lines of their own
abbrev pub number_from : ℕ → List PlainRule → List GivenRule
number_from n [] = []
number_from n (rule ∷ rules) = record { line = n; rule = rule } ∷ number_from (n + 1) rules

pub numbered_rules : (n : ℕ) (rules : List PlainRule) → map (λ (g : GivenRule). g.rule) (number_from n rules) ≡ rules
numbered_rules n [] = refl
numbered_rules n (rule ∷ rules) = ap (λ rs. rule ∷ rs) (numbered_rules (n + 1) rules)

numbered-canonical : (n : ℕ) (rule : PlainRule) (rules : List PlainRule) → is_named rule ≡ true → numbered n (lines (canonical (rule ∷ rules))) ≡ (n, rule_text rule) ∷ numbered (n + 1) (lines (canonical rules))
numbered-canonical n rule rules e = ap (numbered n) (lines-canonical rule rules e)

pub given-canonical : (n : ℕ) (rules : List PlainRule) → ((r : PlainRule) → In r rules → (is_named r ≡ true) × IsText r) → given_rules (numbered n (lines (canonical rules))) ≡ number_from n rules
given-canonical n [] each = ap (λ ls. given_rules (numbered n ls)) lines-none
given-canonical n (rule ∷ rules) each =
    let one = each rule (inl refl) in
    ap given_rules (numbered-canonical n rule rules one.0)
    ∙ ap (λ o. cons_option (option_map (λ r. record { line = n; rule = r }) o) (given_rules (numbered (n + 1) (lines (canonical rules))))) (line_rule-text rule one.0 one.1)
    ∙ ap (λ gs. record { line = n; rule = rule } ∷ gs) (given-canonical (n + 1) rules (λ r h. each r (inr h)))

pub first-canonical : (n : ℕ) (rules : List PlainRule) → ((r : PlainRule) → In r rules → (is_named r ≡ true) × IsText r) → ((r : PlainRule) → In r rules → paths_why r.paths ≡ None)
    → first_of_all line_fault (numbered n (lines (canonical rules))) ≡ None
first-canonical n [] each none = ap (λ ls. first_of_all line_fault (numbered n ls)) lines-none
first-canonical n (rule ∷ rules) each none =
    let one = each rule (inl refl) in
    let rest = first_of_all line_fault (numbered (n + 1) (lines (canonical rules))) in
    ap (first_of_all line_fault) (numbered-canonical n rule rules one.0)
    ∙ ap (λ o. option_or (option_map (λ why. record { line = n; why = why }) (rule_why o)) rest) (line_rule-text rule one.0 one.1)
    ∙ ap (λ o. option_or (option_map (λ why. record { line = n; why = why }) o) rest) (none rule (inl refl))
    ∙ first-canonical (n + 1) rules (λ r h. each r (inr h)) (λ r h. none r (inr h))
