-- A walk on its way, and the alternatives of a leaf.
use Rattle.std.proofs.Common.{◌≡◌, ℕ, ◌≤◌, Bool, true, false, IsTrue, List, [], ◌∷◌, ◌++◌, Option, Some, None, Result, Ok, Err, refl, sym, ap, subst, ◌∙◌, append_assoc, true≢false, arith}
use Rattle.std.specs.List.{list_all}
use Rattle.std.proofs.lemmas.Bool.{and_parts, and_from}
use Rattle.std.proofs.lemmas.List.{append-nil}
use Rattle.version_set.specs.Members.{members}
use Rattle.archive_tree.specs.Data.{PlainAlt}
use Rattle.archive_tree.specs.PartsTest.{are_alts_well}
use Rattle.xa_fields.proofs.Fields.{some_is}
use Rattle.record_format.specs.Data.{leaf_end}
use Rattle.record_format.specs.Nodes.{alt_of}
use Rattle.record_format.specs.Bounds.{IsRec}
use Rattle.record_format.specs.Spelling.{rec_bytes}
use Rattle.archive_file.specs.Laid.{AltsAt}
use Rattle.archive_file.proofs.LaidLaws.{AltsLeft, alts-start, alts-next, alts-end}
use Rattle.archive_file.proofs.ReadLaws.{alts-closed, alts-over}
use Rattle.record_cursor.specs.Items.{PlainItem, alt_item, leaf_end_item}
use Rattle.record_cursor.specs.Next.{next_of}
use Rattle.record_cursor.specs.Places.{Standing, among_nodes, in_leaf, after_item}
use Rattle.record_cursor.specs.declared.fault.CursorFault.{CursorFault}
use Rattle.record_cursor.specs.declared.fault.CursorFault.TheVariants.{Damage}
use Rattle.node_judge.specs.Holding.{PlainHeld, Holds}
use Rattle.node_judge.specs.Rows.{PlainLeaf, is_body_of, are_alts_of}
use Rattle.node_walk.specs.Places.{depth_of, IsInLeaf}
use Rattle.node_walk.specs.Seen.{Seen, Told, at_hand, Reads}
use Rattle.node_walk.specs.Walked.{Given, AltHeld, OneMore, AlternativeJudged, AlternativesJudged, or_damage}
use Rattle.node_walk.proofs.Records.{record-is, leaf-end-is, read-there, alternatives-come}
use Rattle.node_walk.proofs.Steps.{Missed, leaf-is, reads-then, reads-stop, told-on, damage-map}

-- ---- on the way

-- What is read from here on is read from the start.
pub record On (s0 s : Seen) : Type 0 where
  pub within : s.cursor.at ≤ s.cursor.length
  pub same_name : s.cursor.name ≡ s0.cursor.name
  pub same_length : s.cursor.length ≡ s0.cursor.length
  pub onward : s0.cursor.at ≤ s.cursor.at
  pub then : (u : Seen) (e : Option CursorFault) → Reads s u e → Reads s0 u e
  pub told : (bytes : List ℕ) → Told s0 bytes → Told s bytes

pub on-start : (s : Seen) → s.cursor.at ≤ s.cursor.length → On s s
on-start s within = record { within = within; same_name = refl; same_length = refl; onward = omega arith; then = λ u e h. h; told = λ bytes h. h }

pub on-then : (s0 s t : Seen) → On s0 s → Reads s t None → On s0 t
on-then s0 s t on h = record {
  within = h.within;
  same_name = h.same_name ∙ on.same_name;
  same_length = h.same_length ∙ on.same_length;
  onward = (let x = on.onward in let y = h.onward in omega (arith, x, y));
  then = λ u e g. on.then u e (reads-then s t u e h g);
  told = λ bytes told. told-on s t None bytes h (on.told bytes told);
}

-- where the item leads
pub leads-to : (s t : Seen) (i : PlainItem) (p q : Standing) → s.cursor.standing ≡ p → after_item p i ≡ Some q → Given s t i → t.cursor.standing ≡ q
leads-to s t i p q is e g = some_is t.cursor.standing q (sym g.may_come ∙ ap (λ (z : Standing). after_item z i) is ∙ e)

-- an item that may not come was not given
pub leads-nowhere : (s t : Seen) (i : PlainItem) (p : Standing) → s.cursor.standing ≡ p → after_item p i ≡ None → Given s t i → ⊥
leads-nowhere s t i p is e g = (let none : ◌≡◌ {A = Option Standing} None (Some t.cursor.standing) = sym e ∙ ap (λ (z : Standing). after_item z i) (sym is) ∙ g.may_come in absurd cc)

-- ---- one alternative

-- the bodies of more alternatives are right
bodies-right : (h : PlainLeaf) (xs ys : List PlainAlt) → IsTrue (list_all (λ (x : PlainAlt). is_body_of h x.body) xs) → IsTrue (list_all (λ (x : PlainAlt). is_body_of h x.body) ys) → IsTrue (list_all (λ (x : PlainAlt). is_body_of h x.body) (xs ++ ys))
bodies-right h [] ys p q = q
bodies-right h (x ∷ xs) ys p q =
    let two = and_parts (is_body_of h x.body) (list_all (λ (y : PlainAlt). is_body_of h y.body) xs) p in
    and_from (is_body_of h x.body) (list_all (λ (y : PlainAlt). is_body_of h y.body) (xs ++ ys)) two.0 (bodies-right h xs ys two.1 q)

-- alternatives that begin so are not right
not-right : (h : PlainLeaf) (all more : List PlainAlt) → all ≡ more → IsTrue (are_alts_of h all) → are_alts_of h more ≡ false → ⊥
not-right h all more same right wrong = true≢false (sym right ∙ ap (are_alts_of h) same ∙ wrong)

module _ (h : PlainLeaf) (old new : PlainHeld) (s t : Seen) (leaf : IsInLeaf s.cursor.standing) where
  abbrev in_it : ℕ
  in_it = depth_of s.cursor.standing

  -- nothing was given, so no alternatives lie there
  pub alternative-missed : (e : CursorFault) → Missed s t e → AlternativeJudged h old new s t (Err e)
  alternative-missed e m = record {
    reads = m.reads;
    comes = tt;
    refused = λ bytes told done xs rest holds lies right. damage-map e (next_of s.cursor.standing (at_hand s bytes) ≡ None) ⊥
        (λ none. alternatives-come xs rest (at_hand s bytes) in_it lies (subst (λ (p : Standing). next_of p (at_hand s bytes) ≡ None) (leaf-is s.cursor.standing leaf) none)) (m.damage bytes told);
  }

  pub alternative-held : (a : PlainAlt) → Reads s t None → Given s t (alt_item a.stamp a.body) → (r : Result Bool CursorFault) → AltHeld h old new a r → AlternativeJudged h old new s t r
  alternative-held a reads g (Ok true) x = record {
    reads = reads;
    comes = record { alt = a; given = g; right = x.right; holds = λ xs holds. x.holds xs holds };
    refused = λ bytes told done xs rest holds lies right. tt;
  }
  alternative-held a reads g (Ok false) x = absurd (true≢false (sym x.more))
  alternative-held a reads g (Err e) x = record {
    reads = reads-stop s t e x.inside reads;
    comes = tt;
    refused = λ bytes told done xs rest holds lies right. (
        let spelled = record-is (alt_of a) (at_hand s bytes) (at_hand t bytes) (λ r. refl) (g.spelled bytes told) in
        let left = alts-next xs rest [] (at_hand s bytes) (alts-start xs rest (at_hand s bytes) lies) a (at_hand t bytes) (read-there (alt_of a) (at_hand s bytes) (at_hand t bytes) spelled.0 spelled.1) in
        damage-map e (are_alts_of h (done ++ a ∷ left.left) ≡ false) ⊥
        (λ wrong. not-right h (done ++ xs) (done ++ a ∷ left.left) (ap (λ (ys : List PlainAlt). done ++ ys) left.split) right wrong) (x.refused done left.left holds));
  }

-- ---- alternatives

-- The alternatives so far lie there, those that are held stand for them, and what is left of any that lie there comes now.
pub record AltsSoFar (h : PlainLeaf) (held : PlainHeld) (first now : List ℕ) : Type 0 where
  pub done : List PlainAlt
  pub holds : Holds (members h.set) done held
  pub right : IsTrue (list_all (λ (x : PlainAlt). is_body_of h x.body) done)
  pub left : (xs : List PlainAlt) (rest : List ℕ) → AltsAt xs rest first → AltsLeft xs rest done now
  pub lie : (xs : List PlainAlt) (rest : List ℕ) → AltsAt xs rest now → AltsAt (done ++ xs) rest first

pub record AlternativesOn (h : PlainLeaf) (s0 s : Seen) (held : PlainHeld) : Type 0 where
  pub on : On s0 s
  pub stands : s.cursor.standing ≡ in_leaf (depth_of s0.cursor.standing)
  pub so_far : (bytes : List ℕ) → Told s0 bytes → AltsSoFar h held (at_hand s0 bytes) (at_hand s bytes)

pub alternatives-start : (h : PlainLeaf) (s : Seen) (held : PlainHeld) → s.cursor.at ≤ s.cursor.length → IsInLeaf s.cursor.standing → Holds (members h.set) [] held → AlternativesOn h s s held
alternatives-start h s held within leaf holds = record {
  on = on-start s within;
  stands = leaf-is s.cursor.standing leaf;
  so_far = λ bytes told. record { done = []; holds = holds; right = refl; left = λ xs rest lies. alts-start xs rest (at_hand s bytes) lies; lie = λ xs rest lies. lies };
}

module _ (h : PlainLeaf) (s0 s t : Seen) (old new : PlainHeld) (k : AlternativesOn h s0 s old) where
  abbrev d : ℕ
  d = depth_of s0.cursor.standing

  alternatives-more : Reads s t None → OneMore h old new s t → AlternativesOn h s0 t new
  alternatives-more reads m =
      let a = m.alt in
      let g = m.given in
      record {
        on = on-then s0 s t k.on reads;
        stands = leads-to s t (alt_item a.stamp a.body) (in_leaf d) (in_leaf d) k.stands refl g;
        so_far = λ bytes told. (
            let x = k.so_far bytes told in
            let spelled = record-is (alt_of a) (at_hand s bytes) (at_hand t bytes) (λ r. refl) (g.spelled bytes (k.on.told bytes told)) in
            record {
              done = x.done ++ a ∷ [];
              holds = m.holds x.done x.holds;
              right = bodies-right h x.done (a ∷ []) x.right (and_from (is_body_of h a.body) true m.right refl);
              left = λ xs rest lies. alts-next xs rest x.done (at_hand s bytes) (x.left xs rest lies) a (at_hand t bytes) (read-there (alt_of a) (at_hand s bytes) (at_hand t bytes) spelled.0 spelled.1);
              lie = λ xs rest lies. subst (λ (ys : List PlainAlt). AltsAt ys rest (at_hand s0 bytes)) (sym (append_assoc x.done (a ∷ []) xs))
                  (x.lie (a ∷ xs) rest (alts-over a xs rest (at_hand t bytes) (at_hand s bytes) spelled.0 spelled.1 lies));
            });
      }

  -- one more is held, and there is less left
  pub alternatives-on : (b : Bool) → b ≡ true → AlternativeJudged h old new s t (Ok b) → AlternativesOn h s0 t new
  alternatives-on true is j = alternatives-more j.reads j.comes
  alternatives-on false is j = absurd (true≢false (sym is))

  -- ---- the end

  module _ (reads : Reads s t None) (g : Given s t leaf_end_item) where
    spelled-end : (bytes : List ℕ) → Told s0 bytes → IsRec leaf_end × (at_hand s bytes ≡ rec_bytes leaf_end ++ at_hand t bytes)
    spelled-end bytes told = record-is leaf_end (at_hand s bytes) (at_hand t bytes) (λ r. refl) (g.spelled bytes (k.on.told bytes told))

    -- those that lie there are those so far
    only-those : (bytes : List ℕ) (told : Told s0 bytes) (xs : List PlainAlt) (rest : List ℕ) → AltsAt xs rest (at_hand s0 bytes) → ((k.so_far bytes told).done ≡ xs) × (at_hand t bytes ≡ rest)
    only-those bytes told xs rest lies =
        let x = k.so_far bytes told in
        alts-end xs rest x.done (at_hand s bytes) (x.left xs rest lies) (at_hand t bytes) (read-there leaf_end (at_hand s bytes) (at_hand t bytes) leaf-end-is (spelled-end bytes told).1)

    closed : (b : Bool) → ((xs : List PlainAlt) → Holds (members h.set) xs old → b ≡ are_alts_well (members h.set) xs) → AlternativesJudged h s0 t (or_damage b)
    closed true well = record {
      reads = k.on.then t None reads;
      behind = leads-to s t leaf_end_item (in_leaf d) (among_nodes d) k.stands refl g;
      lies = λ bytes told. (
          let x = k.so_far bytes told in
          record {
            alts = x.done;
            lies = subst (λ (xs : List PlainAlt). AltsAt xs (at_hand t bytes) (at_hand s0 bytes)) (append-nil x.done)
                (x.lie [] (at_hand t bytes) (alts-closed (at_hand t bytes) (at_hand s bytes) leaf-end-is (spelled-end bytes told).1));
            only = only-those bytes told;
            right = and_from (are_alts_well (members h.set) x.done) (list_all (λ (y : PlainAlt). is_body_of h y.body) x.done) (sym (well x.done x.holds)) x.right;
          });
      found = λ bytes told xs rest lies right. tt;
    }
    closed false well = record {
      reads = k.on.then t (Some Damage) (reads-stop s t Damage tt reads);
      behind = tt;
      lies = λ bytes told. tt;
      found = λ bytes told xs rest lies right. (
          let x = k.so_far bytes told in
          let same = (only-those bytes told xs rest lies).0 in
          let two = and_parts (are_alts_well (members h.set) xs) (list_all (λ (y : PlainAlt). is_body_of h y.body) xs) right in
          true≢false (sym two.0 ∙ ap (are_alts_well (members h.set)) (sym same) ∙ sym (well x.done x.holds)));
    }

  pub alternatives-closed : (b : Bool) → b ≡ false → AlternativeJudged h old new s t (Ok b) → (c : Bool) → ((xs : List PlainAlt) → Holds (members h.set) xs new → c ≡ are_alts_well (members h.set) xs) → AlternativesJudged h s0 t (or_damage c)
  alternatives-closed true is j c well = absurd (true≢false is)
  alternatives-closed false is j c well = closed j.reads j.comes.0 c (λ xs holds. well xs (subst (Holds (members h.set) xs) (sym j.comes.1) holds))

  pub alternatives-failed : (e : CursorFault) → AlternativeJudged h old new s t (Err e) → AlternativesJudged h s0 t (Err e)
  alternatives-failed e j = record {
    reads = k.on.then t (Some e) j.reads;
    behind = tt;
    lies = λ bytes told. tt;
    found = λ bytes told xs rest lies right. (
        let x = k.so_far bytes told in
        let left = x.left xs rest lies in
        j.refused bytes (k.on.told bytes told) x.done left.left rest x.holds left.lies (subst (λ (ys : List PlainAlt). IsTrue (are_alts_of h ys)) left.split right));
  }
