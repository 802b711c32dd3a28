-- What is held of a leaf stands for its alternatives.
use Rattle.std.proofs.Common.{◌≡◌, ◌+◌, ◌==◌, ◌∙◌, ℕ, Bool, true, false, not, ◌&&◌, ◌||◌, IsTrue, List, [], ◌∷◌, ◌++◌, map, Some, None, is_some, refl, ap, sym, subst, inl, inr, append_assoc, append-nil, eqb-true, eq-eqb, true≢false, arith}
use Rattle.std.specs.Prelude.{nat_le}
use Rattle.std.proofs.lemmas.Bool.{and_parts, and_from}
use Rattle.std.proofs.lemmas.Bool.Decides.{nat_tests}
use Rattle.std.proofs.lemmas.List.{map-append}
use Rattle.std.proofs.lemmas.List.Concat.{flat_map-append}
use Rattle.std.specs.List.{AllByRecursion, list_all, flat_map}
use Rattle.std.specs.Option.{unwrap_or}
use Rattle.keyed_tree.specs.Data.{PlainKey}
use Rattle.keyed_tree.specs.Lists.{Has}
use Rattle.version_set.specs.Members.{members, has}
use Rattle.version_set.specs.Pairs.{IsCanonical}
use Rattle.archive_tree.specs.Data.{Stamp, eff, PlainAlt}
use Rattle.archive_tree.specs.Parts.{alt_sets}
use Rattle.archive_tree.specs.PartsTest.{is_stamp_well, are_parts, are_stamps_well, do_firsts_rise, do_differ, are_alts_well, sets_with}
use Rattle.archive_tree.specs.Stands.{head_or, bodies}
use Rattle.archive_tree.proofs.Counts.{tells_all}
use Rattle.archive_tree.proofs.Numbers.{Has-has}
use Rattle.archive_tree.proofs.Tells.{stamp_tells}
use Rattle.record_parts.specs.Bounds.{IsValue}
use Rattle.record_parts.specs.Spelling.{value_bytes}
use Rattle.node_judge.specs.Holding.{PlainHeld, none_held, may_follow, held_with, stored_pairs, Holds}
use Rattle.node_judge.proofs.Alone.{whole-only}

-- ---- lists with one more item

all-push : {X : Type 0} (P : X → Type 0) (xs : List X) (x : X) → AllByRecursion P xs → P x → AllByRecursion P (xs ++ x ∷ [])
all-push P [] x h p = (p, tt)
all-push P (y ∷ xs) x h p = (h.0, all-push P xs x h.1 p)

has-middle : {X : Type 0} (xs : List X) (x : X) (ys : List X) → Has x (xs ++ x ∷ ys)
has-middle [] x ys = inl refl
has-middle (y ∷ xs) x ys = inr (has-middle xs x ys)

-- an item that is alone has none before it
alone-first : {X : Type 0} (xs : List X) (x y : X) (ys : List X) → xs ++ x ∷ ys ≡ y ∷ [] → xs ≡ []
alone-first [] x y ys e = refl
alone-first (z ∷ []) x y ys e = absurd (not_nil (tails e))
  where
    tails : z ∷ x ∷ ys ≡ y ∷ [] → x ∷ ys ≡ []
    tails e = cc

    not_nil : x ∷ ys ≡ [] → ⊥
    not_nil e = absurd cc
alone-first (z ∷ w ∷ xs) x y ys e = absurd (not_nil (tails e))
  where
    tails : z ∷ w ∷ (xs ++ x ∷ ys) ≡ y ∷ [] → w ∷ (xs ++ x ∷ ys) ≡ []
    tails e = cc

    not_nil : w ∷ (xs ++ x ∷ ys) ≡ [] → ⊥
    not_nil e = absurd cc

module _ (ns : List ℕ) where
  stamps-push : (xs : List PlainAlt) (x : PlainAlt) → IsTrue (are_stamps_well ns xs) → IsTrue (is_stamp_well x.stamp ns) → IsTrue (are_stamps_well ns (xs ++ x ∷ []))
  stamps-push [] x h p = and_from (is_stamp_well x.stamp ns) true p refl
  stamps-push (y ∷ xs) x h p = (let two = and_parts (is_stamp_well y.stamp ns) (are_stamps_well ns xs) h in and_from (is_stamp_well y.stamp ns) (are_stamps_well ns (xs ++ x ∷ [])) two.0 (stamps-push xs x two.1 p))

  stamps-middle : (xs : List PlainAlt) (x : PlainAlt) (ys : List PlainAlt) → IsTrue (are_stamps_well ns (xs ++ x ∷ ys)) → IsTrue (is_stamp_well x.stamp ns)
  stamps-middle [] x ys h = (and_parts (is_stamp_well x.stamp ns) (are_stamps_well ns ys) h).0
  stamps-middle (y ∷ xs) x ys h = stamps-middle xs x ys (and_parts (is_stamp_well y.stamp ns) (are_stamps_well ns (xs ++ x ∷ ys)) h).1

-- ---- before the first, and one more

at_least : (n : ℕ) → nat_le 0 n ≡ true
at_least n = grind (arith, nat_tests)

not_none : (n : ℕ) → n + 1 ≡ 0 → ⊥
not_none n e = omega (arith, e)

pub holds-none : (ns : List ℕ) → Holds ns [] none_held
holds-none ns = record {
  whole = λ e. absurd (true≢false (sym e));
  stored = λ e. record { sets = tt; pairs = refl; spelled = refl; values = tt };
  none = (λ e. refl, λ e. refl);
  stamps = refl;
  rising = λ ys. refl;
}

-- the bodies with one more
bodies-push : (xs : List PlainAlt) (x : PlainAlt) → bodies (xs ++ x ∷ []) ≡ bodies xs ++ x.body ∷ []
bodies-push xs x = map-append (λ (y : PlainAlt). y.body) xs (x ∷ [])

rising-push : (ns : List ℕ) (low : ℕ) (xs : List PlainAlt) (x : PlainAlt) → ((ys : List PlainAlt) → do_firsts_rise 0 ns (xs ++ ys) ≡ do_firsts_rise low ns ys) → nat_le low (head_or 0 (eff x.stamp ns)) ≡ true
    → (ys : List PlainAlt) → do_firsts_rise 0 ns ((xs ++ x ∷ []) ++ ys) ≡ do_firsts_rise (head_or 0 (eff x.stamp ns) + 1) ns ys
rising-push ns low xs x h le ys =
    ap (do_firsts_rise 0 ns) (append_assoc xs (x ∷ []) ys) ∙ h (x ∷ ys) ∙ ap (λ b. b && do_firsts_rise (head_or 0 (eff x.stamp ns) + 1) ns ys) le

-- what an alternative that may come next is
record Follows (h : PlainHeld) (ns : List ℕ) (s : Stamp) : Type 0 where
  apart : h.whole ≡ false
  room : IsTrue (is_some s || h.low == 0)
  well : IsTrue (is_stamp_well s ns)
  above : nat_le h.low (head_or 0 (eff s ns)) ≡ true

not_true : (b : Bool) → IsTrue (not b) → b ≡ false
not_true true h = absurd (true≢false (sym h))
not_true false h = refl

true_not : (b : Bool) → b ≡ false → IsTrue (not b)
true_not true h = absurd (true≢false h)
true_not false h = refl

follows : (h : PlainHeld) (ns : List ℕ) (s : Stamp) → IsTrue (may_follow h ns s) → Follows h ns s
follows h ns s f =
    let a = is_some s || h.low == 0 in
    let w = is_stamp_well s ns in
    let three = and_parts (not h.whole && a && w) (nat_le h.low (head_or 0 (eff s ns))) f in
    let two = and_parts (not h.whole && a) w three.0 in
    let one = and_parts (not h.whole) a two.0 in
    record { apart = not_true h.whole one.0; room = one.1; well = two.1; above = three.1 }

of-follows : (h : PlainHeld) (ns : List ℕ) (s : Stamp) → Follows h ns s → IsTrue (may_follow h ns s)
of-follows h ns s f =
    let a = is_some s || h.low == 0 in
    let w = is_stamp_well s ns in
    and_from (not h.whole && a && w) (nat_le h.low (head_or 0 (eff s ns))) (and_from (not h.whole && a) w (and_from (not h.whole) a (true_not h.whole f.apart) f.room) f.well) f.above

abbrev has-items : {X : Type 0} → List X → Bool
has-items [] = false
has-items (x ∷ xs) = true

nil-not : {X : Type 0} (xs : List X) (x : X) → xs ++ x ∷ [] ≡ [] → ⊥
nil-not [] x e = true≢false (ap has-items e)
nil-not (y ∷ xs) x e = true≢false (ap has-items e)

module _ (ns : List ℕ) (xs : List PlainAlt) (h : PlainHeld) (holds : Holds ns xs h) where
  pub one-more : (s : Stamp) (b : PlainKey) (bytes : List ℕ) → IsValue b → bytes ≡ value_bytes b → IsTrue (may_follow h ns s) → Holds ns (xs ++ record { stamp = s; body = b } ∷ []) (held_with h ns s bytes)
  one-more None b bytes is spelled may =
      let f = follows h ns None may in
      let x : PlainAlt = record { stamp = None; body = b } in
      let empty : xs ≡ [] = holds.none.0 (eqb-true h.low 0 f.room) in
      record {
        whole = λ e. (x, (ap (λ zs. zs ++ x ∷ []) empty, refl));
        stored = λ e. absurd (true≢false e);
        none = (λ e. absurd (not_none (head_or 0 ns) e), λ e. absurd (nil-not xs x e));
        stamps = stamps-push ns xs x holds.stamps f.well;
        rising = rising-push ns h.low xs x holds.rising f.above;
      }
  one-more (Some s) b bytes is spelled may =
      let f = follows h ns (Some s) may in
      let x : PlainAlt = record { stamp = Some s; body = b } in
      let old = holds.stored f.apart in
      record {
        whole = λ e. absurd (true≢false (sym e ∙ f.apart));
        stored = λ e. record {
          sets = all-push (λ (y : PlainAlt). IsTrue (is_some y.stamp)) xs x old.sets refl;
          pairs = ap (λ ps. ps ++ s) old.pairs ∙ ap (λ ps. flat_map stored_pairs xs ++ ps) (sym (append-nil s)) ∙ sym (flat_map-append stored_pairs xs (x ∷ []));
          spelled = (λ i. old.spelled i ++ spelled i ∷ []) ∙ sym (map-append value_bytes (bodies xs) (b ∷ [])) ∙ ap (map value_bytes) (sym (bodies-push xs x));
          values = subst (AllByRecursion IsValue) (sym (bodies-push xs x)) (all-push IsValue (bodies xs) b old.values is);
        };
        none = (λ e. absurd (not_none (head_or 0 (members s)) e), λ e. absurd (nil-not xs x e));
        stamps = stamps-push ns xs x holds.stamps f.well;
        rising = rising-push ns h.low xs x holds.rising f.above;
      }

  -- ---- an alternative that may not come next

  module _ (s : Stamp) (b : PlainKey) (ys : List PlainAlt) where
    abbrev next : PlainAlt
    next = record { stamp = s; body = b }

    must-follow : IsTrue (are_alts_well ns (xs ++ next ∷ ys)) → Follows h ns s
    must-follow w =
        let all = xs ++ next ∷ ys in
        let st = are_stamps_well ns all in
        let ri = do_firsts_rise 0 ns all in
        let three = and_parts (st && ri && are_parts ns (alt_sets ns all)) (do_differ (bodies all)) w in
        let two = and_parts (st && ri) (are_parts ns (alt_sets ns all)) three.0 in
        let one = and_parts st ri two.0 in
        let rising = and_parts (nat_le h.low (head_or 0 (eff s ns))) (do_firsts_rise (head_or 0 (eff s ns) + 1) ns ys) (sym (holds.rising (next ∷ ys)) ∙ one.1) in
        record {
          apart = elim h.whole as (λ b. h.whole ≡ b → b ≡ false) [
            | true ↦ λ e. (
                let alone = holds.whole e in
                let z = alone.0 in
                let first = subst (λ zs. IsTrue (are_alts_well ns (zs ++ next ∷ ys))) alone.1.0 w in
                absurd (true≢false (ap has-items (alone-first (z ∷ []) next z ys (whole-only ns (z ∷ next ∷ ys) z first (inl refl) alone.1.1)))))
            | false ↦ λ e. refl
          ] refl;
          room = room s (λ none. (
              let empty = alone-first xs next next ys (whole-only ns all next w (has-middle xs next ys) none) in
              eq-eqb h.low 0 (holds.none.1 empty)));
          well = stamps-middle ns xs next ys one.0;
          above = rising.0;
        }
      where
        room : (t : Stamp) → (t ≡ None → IsTrue (h.low == 0)) → IsTrue (is_some t || h.low == 0)
        room None f = f refl
        room (Some t) f = refl

    pub refused : may_follow h ns s ≡ false → are_alts_well ns (xs ++ next ∷ ys) ≡ false
    refused e = to_false (are_alts_well ns (xs ++ next ∷ ys)) (λ w. true≢false (sym (of-follows h ns s (must-follow w)) ∙ e))
      where
        to_false : (b : Bool) → (b ≡ true → ⊥) → b ≡ false
        to_false true n = absurd (n refl)
        to_false false n = refl

  -- ---- at the end

  firsts-rise : IsTrue (do_firsts_rise 0 ns xs)
  firsts-rise = ap (do_firsts_rise 0 ns) (sym (append-nil xs)) ∙ holds.rising []

  pub close-stored : (d e : Bool) → d ≡ are_parts ns (alt_sets ns xs) → e ≡ do_differ (bodies xs) → (d && e) ≡ are_alts_well ns xs
  close-stored d e parts differ =
      (λ i. parts i && differ i) ∙ sym (λ i. holds.stamps i && firsts-rise i && are_parts ns (alt_sets ns xs) && do_differ (bodies xs))

  pub close-whole : h.whole ≡ true → true ≡ are_alts_well ns xs
  close-whole e =
      let alone = holds.whole e in
      let z = alone.0 in
      let parts : IsTrue (are_parts ns (alt_sets ns xs)) =
      ap (λ zs. are_parts ns (alt_sets ns zs)) alone.1.0 ∙ ap (λ t. are_parts ns (eff t ns ∷ [])) alone.1.1 ∙ all-parts in
      let differ : IsTrue (do_differ (bodies xs)) = ap (λ zs. do_differ (bodies zs)) alone.1.0 in
      close-stored true true (sym parts) (sym differ)
    where
      all-parts : IsTrue (are_parts ns (ns ∷ []))
      all-parts =
          and_from (list_all (λ n. sets_with n (ns ∷ []) == 1) ns) (list_all (λ s. list_all (has ns) s) (ns ∷ []))
          (tells_all (λ n. sets_with n (ns ∷ []) == 1) ns (λ n i. (let there = Has-has ns n i in rw there refl)))
          (and_from (list_all (has ns) ns) true (tells_all (has ns) ns (λ n i. Has-has ns n i)) refl)

-- ---- stored sets

set-is : (ns : List ℕ) (s : Stamp) → IsTrue (is_some s) → members (unwrap_or s []) ≡ eff s ns
set-is ns None h = absurd (true≢false (sym h))
set-is ns (Some t) h = refl

set-canonical : (ns : List ℕ) (s : Stamp) → IsTrue (is_some s) → IsTrue (is_stamp_well s ns) → IsCanonical (unwrap_or s [])
set-canonical ns None h w = absurd (true≢false (sym h))
set-canonical ns (Some t) h w = ((stamp_tells (Some t) ns).0 w).canonical t refl

module _ (ns : List ℕ) where
  pub sets-are : (xs : List PlainAlt) → AllByRecursion (λ (x : PlainAlt). IsTrue (is_some x.stamp)) xs → map members (map stored_pairs xs) ≡ alt_sets ns xs
  sets-are [] h = refl
  sets-are (x ∷ xs) h = (λ i. set-is ns x.stamp h.0 i ∷ sets-are xs h.1 i)

  pub sets-canonical : (xs : List PlainAlt) → AllByRecursion (λ (x : PlainAlt). IsTrue (is_some x.stamp)) xs → IsTrue (are_stamps_well ns xs) → AllByRecursion IsCanonical (map stored_pairs xs)
  sets-canonical [] h w = tt
  sets-canonical (x ∷ xs) h w = (let two = and_parts (is_stamp_well x.stamp ns) (are_stamps_well ns xs) w in (set-canonical ns x.stamp h.0 two.0, sets-canonical xs h.1 two.1))

pub sets-flat : (xs : List PlainAlt) → flat_map stored_pairs xs ≡ flat_map (λ s. s) (map stored_pairs xs)
sets-flat [] = refl
sets-flat (x ∷ xs) = ap (λ ps. stored_pairs x ++ ps) (sets-flat xs)
