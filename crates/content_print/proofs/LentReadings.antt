-- Steps of printing out of bytes.
use Rattle.std.proofs.Common.{◌≡◌, ℕ, zero, suc, ◌+◌, ◌-◌, ◌<◌, ◌≤◌, ◌==◌, Bool, true, false, cond, List, [], ◌∷◌, ◌++◌, length, map, take, drop, Option, Some, None, Result, Ok, Err, refl, sym, ap, subst, ◌∙◌, arith, append_assoc, append-nil, length-drop}
use Rattle.std.specs.Prelude.{if◌then◌else◌}
use Rattle.std.specs.Option.{option_map}
use Rattle.std.specs.Int.{w32}
use Rattle.std.proofs.lemmas.Bool.Decides.{nat_tests}
use Rattle.std.proofs.lemmas.List.{drop_all}
use Rattle.xa_outside.specs.Causes.{Rose}
use Rattle.xa_outside.specs.Taken.{Takes, TakesPrefix}
use Rattle.xa_outside.specs.TakenLaws.{Takes-nil, Takes-trans, TakesPrefix-after}
use Rattle.xa_fields.specs.Reading.{Reader, ◌>>=◌, byte_at, number_at, text_at, many_at, list_at, chain_at, chained_at, whole}
use Rattle.xa_fields.proofs.Fields.{some_is}
use Rattle.record_parts.specs.Bounds.{deepest}
use Rattle.jsonml_tree.specs.Data.{PlainAttr, PlainTree, element, PlainContent, content, trees_of}
use Rattle.jsonml_print.specs.Pen.{Pen}
use Rattle.jsonml_print.specs.Calls.{Call, begin, attribute, text, end, printed, reached, calls_of, content_calls}
use Rattle.jsonml_print.proofs.Walks.{printed-append, reached-append}
use Rattle.record_parts.specs.Reading.{attr_at, next_attr, attrs_at, content_by, item_of, content_below, item_at, content_at}
use Rattle.record_parts.specs.Deep.{none_below, one_below}
use Rattle.content_print.specs.LentPrinted.{Output, Reading, calls_read, items_calls_of, whole_calls, ahead, Made, Stopped, Damaged, PrintsRead}
use Rattle.content_print.specs.declared.fault.PrintFault.{PrintFault}
use Rattle.content_print.specs.declared.fault.PrintFault.TheVariants.{Damage, Out}

-- ---- calls in front

ahead-none : (r : Reading) → ahead [] r ≡ r
ahead-none None = refl
ahead-none (Some x) = refl

ahead-both : (cs ds : List Call) (r : Reading) → ahead cs (ahead ds r) ≡ ahead (cs ++ ds) r
ahead-both cs ds None = refl
ahead-both cs ds (Some x) = ap (λ (es : List Call). Some (es, x.1)) (sym (append_assoc cs ds x.0))

-- ---- one step after another

pub made-none : (s : Output) (whole : Reading) → Made s s whole whole
made-none s whole = record { later = omega arith; done = []; bytes = Takes-nil s.taken; pen = refl; reads = ahead-none whole }

-- before the first round of a loop
pub made-before : (s : Output) (left : ℕ → Reading) (count : ℕ) → Made s s (left (count - 0)) (left count)
made-before s left count = (let same : count - 0 ≡ count = omega arith in subst (λ (n : ℕ). Made s s (left n) (left count)) (sym same) (made-none s (left count)))

printed-on : (p q : Pen) (cs ds : List Call) → q ≡ reached p cs → printed p cs ++ printed q ds ≡ printed p (cs ++ ds)
printed-on p q cs ds e = ap (λ (r : Pen). printed p cs ++ printed r ds) e ∙ sym (printed-append p cs ds)

pub made-then : (s t u : Output) (left mid whole : Reading) → Made s t mid whole → Made t u left mid → Made s u left whole
made-then s t u left mid whole h g = record {
  later = (let x = h.later in let y = g.later in omega (arith, x, y));
  done = h.done ++ g.done;
  bytes = subst (Takes s.taken u.taken) (printed-on s.pen t.pen h.done g.done h.pen) (Takes-trans s.taken t.taken u.taken (printed s.pen h.done) (printed t.pen g.done) h.bytes g.bytes);
  pen = g.pen ∙ ap (λ (p : Pen). reached p g.done) h.pen ∙ sym (reached-append s.pen h.done g.done);
  reads = sym (ahead-both h.done g.done left) ∙ ap (ahead h.done) g.reads ∙ h.reads;
}

pub stopped-then : (s t u : Output) (mid whole : Reading) → Made s t mid whole → Stopped t u mid → Stopped s u whole
stopped-then s t u mid whole h g = record {
  later = (let x = h.later in let y = g.later in omega (arith, x, y));
  rose = (let x = h.later in let y = g.rose in omega (arith, x, y));
  done = h.done ++ g.done;
  bytes = subst (TakesPrefix s.taken u.taken) (printed-on s.pen t.pen h.done g.done h.pen) (TakesPrefix-after s.taken t.taken u.taken (printed s.pen h.done) (printed t.pen g.done) h.bytes g.bytes);
  left = g.left;
  reads = sym (ahead-both h.done g.done g.left) ∙ ap (ahead h.done) g.reads ∙ h.reads;
}

damaged-then : (s t u : Output) (mid whole : Reading) → Made s t mid whole → Damaged t u mid → Damaged s u whole
damaged-then s t u mid whole h g = record {
  later = (let x = h.later in let y = g.later in omega (arith, x, y));
  gained = (let more = g.gained in (printed s.pen h.done ++ more.0, Takes-trans s.taken t.taken u.taken (printed s.pen h.done) more.0 h.bytes more.1));
  none = sym h.reads ∙ ap (ahead h.done) g.none;
}

pub prints-then : {T : Type 0} (s t u : Output) (rest : T → List ℕ) (mid whole : Reading) (r : Result T PrintFault) → Made s t mid whole → PrintsRead t u rest mid r → PrintsRead s u rest whole r
prints-then s t u rest mid whole (Ok x) h g = made-then s t u (Some ([], rest x)) mid whole h g
prints-then s t u rest mid whole (Err Damage) h g = damaged-then s t u mid whole h g
prints-then s t u rest mid whole (Err Out) h g = stopped-then s t u mid whole h g

-- nothing can be read of what is left
pub damaged : (s t : Output) (left whole : Reading) → Made s t left whole → left ≡ None → Damaged s t whole
damaged s t left whole h e = record { later = h.later; gained = (printed s.pen h.done, h.bytes); none = sym h.reads ∙ ap (ahead h.done) e }

pub nothing : (s : Output) (whole : Reading) → whole ≡ None → Damaged s s whole
nothing s whole e = damaged s s whole whole (made-none s whole) e

-- the same, said in another way
pub prints-as : {T : Type 0} (s t : Output) (rest : T → List ℕ) (a b : Reading) (r : Result T PrintFault) → a ≡ b → PrintsRead s t rest b r → PrintsRead s t rest a r
prints-as s t rest a b r e h = subst (λ (x : Reading). PrintsRead s t rest x r) (sym e) h

pub left-as : (s t : Output) (a b whole : Reading) → a ≡ b → Made s t a whole → Made s t b whole
left-as s t a b whole e h = subst (λ (x : Reading). Made s t x whole) e h

pub made-as : (s t : Output) (left a b : Reading) → a ≡ b → Made s t left b → Made s t left a
made-as s t left a b e h = subst (λ (x : Reading). Made s t left x) (sym e) h

-- ---- one call

pub made-call : (s t : Output) (call : Call) (left whole : Reading) → whole ≡ ahead (call ∷ []) left → s.faults ≤ t.faults → Takes s.taken t.taken (printed s.pen (call ∷ [])) → t.pen ≡ reached s.pen (call ∷ []) → Made s t left whole
made-call s t call left whole e later bytes pen = record { later = later; done = call ∷ []; bytes = bytes; pen = pen; reads = sym e }

pub stopped-call : (s t : Output) (call : Call) (left whole : Reading) → whole ≡ ahead (call ∷ []) left → s.faults ≤ t.faults → Rose s.faults t.faults → TakesPrefix s.taken t.taken (printed s.pen (call ∷ [])) → Stopped s t whole
stopped-call s t call left whole e later rose bytes = record { later = later; rose = rose; done = call ∷ []; bytes = bytes; left = left; reads = sym e }

-- ---- two readings, one behind the other

abbrev pub in_turn : Reading → (List ℕ → Reading) → Reading
in_turn None next = None
in_turn (Some x) next = ahead x.0 (next x.1)

in_turn-ahead : (cs : List Call) (r : Reading) (next : List ℕ → Reading) → in_turn (ahead cs r) next ≡ ahead cs (in_turn r next)
in_turn-ahead cs None next = refl
in_turn-ahead cs (Some x) next = sym (ahead-both cs x.0 (next x.1))

pub turn-made : (s t : Output) (rest : List ℕ) (next : List ℕ → Reading) (read : Reading) → Made s t (Some ([], rest)) read → Made s t (next rest) (in_turn read next)
turn-made s t rest next read h = record {
  later = h.later;
  done = h.done;
  bytes = h.bytes;
  pen = h.pen;
  reads = ap (ahead h.done) (sym (ahead-none (next rest))) ∙ sym (in_turn-ahead h.done (Some ([], rest)) next) ∙ ap (λ (r : Reading). in_turn r next) h.reads;
}

turn-damaged : (s t : Output) (next : List ℕ → Reading) (read : Reading) → Damaged s t read → Damaged s t (in_turn read next)
turn-damaged s t next read h = record { later = h.later; gained = h.gained; none = ap (λ (r : Reading). in_turn r next) h.none }

turn-stopped : (s t : Output) (next : List ℕ → Reading) (read : Reading) → Stopped s t read → Stopped s t (in_turn read next)
turn-stopped s t next read h = record {
  later = h.later;
  rose = h.rose;
  done = h.done;
  bytes = h.bytes;
  left = in_turn h.left next;
  reads = sym (in_turn-ahead h.done h.left next) ∙ ap (λ (r : Reading). in_turn r next) h.reads;
}

-- a fault in the first
pub turn-failed : {T U : Type 0} (s t : Output) (rest : T → List ℕ) (other : U → List ℕ) (next : List ℕ → Reading) (read : Reading) (e : PrintFault) → PrintsRead s t rest read (Err e) → PrintsRead s t other (in_turn read next) (Err e)
turn-failed s t rest other next read Damage h = turn-damaged s t next read h
turn-failed s t rest other next read Out h = turn-stopped s t next read h

-- ---- contents

content-items : (xs : List PlainAttr) (ts : Option (List PlainTree × List ℕ)) → calls_read content_calls (ts >>= λ y. Some (content xs (trees_of y.0), y.1)) ≡ ahead (map attribute xs) (calls_read items_calls_of ts)
content-items xs None = refl
content-items xs (Some y) = refl

content-parts : (a : Option (List PlainAttr × List ℕ)) (items : Reader (List PlainTree)) → calls_read content_calls (a >>= λ x. items x.1 >>= λ y. Some (content x.0 (trees_of y.0), y.1)) ≡ in_turn (calls_read (map attribute) a) (λ r. calls_read items_calls_of (items r))
content-parts None items = refl
content-parts (Some x) items = content-items x.0 (items x.1)

pub content-turn : (depth : ℕ) (bytes : List ℕ) → calls_read content_calls (content_at depth bytes) ≡ in_turn (calls_read (map attribute) (attrs_at bytes)) (λ r. calls_read items_calls_of (list_at (item_at depth) r))
unfolding content_by
content-turn depth bytes = content-parts (attrs_at bytes) (list_at (item_at depth))

-- ---- items

item-first : (t : PlainTree) (ts : Option (List PlainTree × List ℕ)) → calls_read items_calls_of (ts >>= λ y. Some (t ∷ y.0, y.1)) ≡ ahead (calls_of t) (calls_read items_calls_of ts)
item-first t None = refl
item-first t (Some y) = refl

items-parts : (a : Option (PlainTree × List ℕ)) (items : Reader (List PlainTree)) → calls_read items_calls_of (a >>= λ x. items x.1 >>= λ y. Some (x.0 ∷ y.0, y.1)) ≡ in_turn (calls_read calls_of a) (λ r. calls_read items_calls_of (items r))
items-parts None items = refl
items-parts (Some x) items = item-first x.0 (items x.1)

pub items-turn : (one : Reader PlainTree) (count i : ℕ) (bytes : List ℕ) → i < count
    → calls_read items_calls_of (many_at one (count - i) bytes) ≡ in_turn (calls_read calls_of (one bytes)) (λ r. calls_read items_calls_of (many_at one (count - (i + 1)) r))
unfolding many_at
items-turn one count i bytes lt = (let k : count - i ≡ suc (count - (i + 1)) = omega arith in rw k (items-parts (one bytes) (many_at one (count - (i + 1)))))

pub items-done : (one : Reader PlainTree) (count i : ℕ) (bytes : List ℕ) → count ≤ i → calls_read items_calls_of (many_at one (count - i) bytes) ≡ Some ([], bytes)
unfolding many_at
items-done one count i bytes le = (let k : count - i ≡ 0 = omega arith in rw k refl)

module _ (one : Reader PlainTree) (bytes : List ℕ) where
  pub items-count : (n : ℕ) (rest : List ℕ) → number_at w32 bytes ≡ Some (n, rest) → calls_read items_calls_of (list_at one bytes) ≡ calls_read items_calls_of (many_at one n rest)
  unfolding list_at
  items-count n rest h = rw h refl

  pub items-uncounted : number_at w32 bytes ≡ None → calls_read items_calls_of (list_at one bytes) ≡ None
  unfolding list_at
  items-uncounted h = rw h refl

-- ---- attributes

module _ (bytes : List ℕ) where
  pub attrs-count : (n : ℕ) (rest : List ℕ) → number_at w32 bytes ≡ Some (n, rest) → calls_read (map attribute) (attrs_at bytes) ≡ calls_read (map attribute) (chain_at attr_at next_attr None n rest)
  unfolding chained_at
  attrs-count n rest h = rw h refl

  pub attrs-uncounted : number_at w32 bytes ≡ None → calls_read (map attribute) (attrs_at bytes) ≡ None
  unfolding chained_at
  attrs-uncounted h = rw h refl

attr-first : (a : PlainAttr) (xs : Option (List PlainAttr × List ℕ)) → calls_read (map attribute) (xs >>= λ y. Some (a ∷ y.0, y.1)) ≡ ahead (attribute a ∷ []) (calls_read (map attribute) xs)
attr-first a None = refl
attr-first a (Some y) = refl

module _ (last : Option (List ℕ)) (count i : ℕ) (bytes : List ℕ) where
  abbrev pub attrs-left : Reading
  attrs-left = calls_read (map attribute) (chain_at attr_at next_attr last (count - i) bytes)

  pub attrs-turn : (next : Option (List ℕ)) (a : PlainAttr) (after : List ℕ) → i < count → attr_at bytes ≡ Some (a, after) → next_attr last a ≡ Some next
      → attrs-left ≡ ahead (attribute a ∷ []) (calls_read (map attribute) (chain_at attr_at next_attr next (count - (i + 1)) after))
  unfolding chain_at
  attrs-turn next a after lt h may = (let k : count - i ≡ suc (count - (i + 1)) = omega arith in rw (k, h, may) (attr-first a (chain_at attr_at next_attr next (count - (i + 1)) after)))

  pub attrs-break : i < count → attr_at bytes ≡ None → attrs-left ≡ None
  unfolding chain_at
  attrs-break lt h = (let k : count - i ≡ suc (count - (i + 1)) = omega arith in rw (k, h) refl)

  pub attrs-stop : (a : PlainAttr) (after : List ℕ) → i < count → attr_at bytes ≡ Some (a, after) → next_attr last a ≡ None → attrs-left ≡ None
  unfolding chain_at
  attrs-stop a after lt h not = (let k : count - i ≡ suc (count - (i + 1)) = omega arith in rw (k, h, not) refl)

  pub attrs-done : count ≤ i → attrs-left ≡ Some ([], bytes)
  unfolding chain_at
  attrs-done le = (let k : count - i ≡ 0 = omega arith in rw k refl)

-- ---- elements

-- what stands behind the beginning of an element
abbrev pub ended : List ℕ → Reading
ended rest = Some (end ∷ [], rest)

element-turn : (tag : List ℕ) (read : Option (PlainContent × List ℕ)) → calls_read (λ c. calls_of (element tag c)) read ≡ ahead (begin tag ∷ []) (in_turn (calls_read content_calls read) ended)
element-turn tag None = refl
element-turn tag (Some x) = refl

module _ (tag : List ℕ) (depth : ℕ) (bytes : List ℕ) where
  pub element-at : 0 < depth → calls_read (λ c. calls_of (element tag c)) (content_below depth bytes) ≡ ahead (begin tag ∷ []) (in_turn (calls_read content_calls (content_at (depth - 1) bytes)) ended)
  element-at deep = element-turn tag (content_below depth bytes) ∙ ap (λ (read : Option (PlainContent × List ℕ)). ahead (begin tag ∷ []) (in_turn (calls_read content_calls read) ended)) (one_below depth bytes deep)

  pub element-deep : depth ≡ 0 → calls_read (λ c. calls_of (element tag c)) (content_below depth bytes) ≡ None
  element-deep e = ap (λ (read : Option (PlainContent × List ℕ)). calls_read (λ c. calls_of (element tag c)) read) (none_below depth bytes e)

module _ (depth : ℕ) (bytes rest behind s : List ℕ) where
  pub item-text : byte_at bytes ≡ Some (0, rest) → text_at rest ≡ Some (s, behind) → calls_read calls_of (item_at depth bytes) ≡ ahead (text s ∷ []) (Some ([], behind))
  unfolding item_of
  item-text kind read = rw (kind, read) refl

  element-of : (read : Option (PlainContent × List ℕ)) → calls_read calls_of (read >>= λ c. Some (element s c.0, c.1)) ≡ calls_read (λ c. calls_of (element s c)) read
  element-of None = refl
  element-of (Some x) = refl

  pub item-element : byte_at bytes ≡ Some (1, rest) → text_at rest ≡ Some (s, behind) → calls_read calls_of (item_at depth bytes) ≡ calls_read (λ c. calls_of (element s c)) (content_below depth behind)
  unfolding item_of
  item-element kind read = rw (kind, read) (element-of (content_below depth behind))

-- bytes that are no item
module _ (depth : ℕ) (bytes : List ℕ) where
  pub item-none : byte_at bytes ≡ None → calls_read calls_of (item_at depth bytes) ≡ None
  item-none h = rw h refl

  no-text : (k : ℕ) (rest : List ℕ) → text_at rest ≡ None → item_of (content_below depth) k rest ≡ None
  unfolding item_of
  no-text zero rest h = rw h refl
  no-text (suc zero) rest h = rw h refl
  no-text (suc (suc k)) rest h = refl

  pub item-untold : (k : ℕ) (rest : List ℕ) → byte_at bytes ≡ Some (k, rest) → text_at rest ≡ None → calls_read calls_of (item_at depth bytes) ≡ None
  item-untold k rest kind h = rw (kind, no-text k rest h) refl

  no-kind : (k : ℕ) (rest : List ℕ) → 2 ≤ k → item_of (content_below depth) k rest ≡ None
  unfolding item_of
  no-kind zero rest h = absurd (omega (arith, h))
  no-kind (suc zero) rest h = absurd (omega (arith, h))
  no-kind (suc (suc k)) rest h = refl

  pub item-unkind : (k : ℕ) (rest : List ℕ) → byte_at bytes ≡ Some (k, rest) → 2 ≤ k → calls_read calls_of (item_at depth bytes) ≡ None
  item-unkind k rest kind h = rw (kind, no-kind k rest h) refl

-- ---- the whole content

-- nothing stands behind it
abbrev pub at-end : List ℕ → Reading
at-end rest = if length rest == 0 then Some ([], []) else None

pub is-end : (n : ℕ) (bytes : List ℕ) → length bytes ≤ n → at-end (drop n bytes) ≡ Some ([], [])
is-end n bytes le = ap at-end (drop_all n bytes le)

pub no-end : (n : ℕ) (bytes : List ℕ) → n < length bytes → at-end (drop n bytes) ≡ None
no-end n bytes lt =
    let some : (length (drop n bytes) == 0) ≡ false = (let long = length-drop n bytes in grind (arith, nat_tests)) in
    ap (λ (b : Bool). cond b (Some ([], [])) None) some

whole-ends : (read : Option (PlainContent × List ℕ)) → option_map (λ c. (content_calls c, [])) (read >>= λ a. if length a.1 == 0 then Some a.0 else None) ≡ in_turn (calls_read content_calls read) at-end
whole-ends None = refl
whole-ends (Some x) = ends (length x.1 == 0)
  where
    ends : (b : Bool) → option_map (λ c. (content_calls c, [])) (cond b (Some x.0) None) ≡ ahead (content_calls x.0) (cond b (Some ([], [])) None)
    ends true = ap (λ (cs : List Call). Some (cs, [])) (sym (append-nil (content_calls x.0)))
    ends false = refl

pub whole-turn : (bytes : List ℕ) → whole_calls bytes ≡ in_turn (calls_read content_calls (content_at deepest bytes)) at-end
unfolding whole
whole-turn bytes = whole-ends (content_at deepest bytes)

-- ---- calls that are all

pub calls-are : (done calls : List Call) (x : List Call × List ℕ) → ahead done (Some x) ≡ Some (calls, []) → done ++ x.0 ≡ calls
calls-are done calls x e = ap (λ (y : List Call × List ℕ). y.0) (some_is (done ++ x.0, x.1) (calls, []) e)
