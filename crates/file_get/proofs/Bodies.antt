-- Reading the body that a leaf has in a version.
use Rattle.std.proofs.Common.{◌≡◌, ℕ, zero, suc, ◌+◌, ◌-◌, ◌*◌, ◌≤◌, ◌<◌, ◌^◌, Bool, true, false, ◌||◌, ◌==◌, cond, List, [], ◌∷◌, ◌++◌, length, map, take, drop, Option, Some, None, Result, Ok, Err, refl, sym, ap, subst, ◌∙◌, arith, append_assoc, length-drop}
use Rattle.std.specs.List.{flat_map, AllByRecursion}
use Rattle.std.specs.Prelude.{is_some, max, if◌then◌else◌}
use Rattle.std.specs.Option.{option_map, ok_or}
use Rattle.std.proofs.Math.Seq.{take-length}
use Rattle.std.proofs.lemmas.Bool.Decides.{nat_tests}
use Rattle.std.proofs.lemmas.List.{length-append, append-nil}
use Rattle.xa_fields.specs.Spelling.{u32_bytes, u64_bytes}
use Rattle.xa_fields.specs.Reading.{◌>>=◌, byte_at, chained_at, chain_at, whole}
use Rattle.jsonml_tree.specs.Data.{PlainScalar, PlainContent}
use Rattle.record_parts.specs.Reading.{scalar_at, content_at, value_at, value_of}
use Rattle.record_parts.specs.Values.{value_reads}
use Rattle.xa_fields.proofs.Fields.{u32_reads}
use Rattle.xa_outside.specs.Folder.{Files}
use Rattle.xa_outside.specs.Numbers.{Numbers, IsMeter, PullsAtMost}
use Rattle.xa_outside.specs.NumberLaws.{PullsAtMost-none, PullsAtMost-more, PullsAtMost-trans}
use Rattle.version_set.specs.Pairs.{IsFrom}
use Rattle.version_set.specs.Members.{members, has}
use Rattle.keyed_tree.specs.Data.{PlainKey, scalar, inside}
use Rattle.archive_tree.specs.Data.{Stamp, PlainAlt, eff}
use Rattle.archive_tree.specs.Read.{body_at}
use Rattle.timestamp_tree.specs.Bytes.{pair_bytes, set_bytes}
use Rattle.timestamp_tree.specs.Reading.{pair_at, next_pair}
use Rattle.timestamp_tree.proofs.Trees.{length-pairs, length-set_bytes}
use Rattle.record_parts.specs.Bounds.{IsSet, IsStamp, IsValue, deepest, most}
use Rattle.record_parts.specs.Spelling.{stamp_bytes, value_bytes}
use Rattle.record_parts.specs.Parts.{set_reads}
use Rattle.record_format.specs.Bounds.{IsRec}
use Rattle.record_format.specs.Nodes.{alt_of, set_in}
use Rattle.record_format.specs.Spelling.{body_bytes, rec_bytes}
use Rattle.record_format.proofs.Pieces.{rec-length}
use Rattle.record_cursor.specs.Moves.{TellsFront}
use Rattle.record_cursor.specs.Steps.{Filled}
use Rattle.record_cursor.specs.declared.fault.CursorFault.{CursorFault}
use Rattle.record_cursor.specs.declared.fault.CursorFault.TheVariants.{Damage}
use Rattle.file_rows.specs.StandsAt.{StandsAt}
use Rattle.file_rows.proofs.Parts.{stands-front, stands-back}
use Rattle.file_get.specs.Inside.{AltsTold, AltIs, SetIs, head_bytes}
use Rattle.file_get.specs.Kids.{some_has}
use Rattle.file_get.specs.declared.body.Alternative.{Alternative}
use Rattle.file_get.proofs.Opened.{eff-members}
use Rattle.std.proofs.lemmas.List.{drop_all}
use Rattle.file_get.proofs.Openings.{body-stands}
use Rattle.file_get.specs.LeafBodies.{whole_inside, body_view, body_found}
use Rattle.file_get.specs.declared.value.Body.{Body}
use Rattle.file_get.specs.Searched.{alts_read, searched, stamp_read}

-- ---- a list of alternatives

-- the bytes of alternatives
abbrev alts_bytes : List PlainAlt → List ℕ
alts_bytes xs = flat_map rec_bytes (map alt_of xs)

module _ (i : ℕ) (files : Option Files) (name bytes : List ℕ) (last at end : ℕ) (set : List (ℕ × ℕ)) (x : PlainAlt) (xs : List PlainAlt) (more : List ℕ) where
  -- the first of them
  pub first-stands : AltsTold i files name bytes last at end set (x ∷ xs) more → StandsAt bytes at (rec_bytes (alt_of x) ++ (alts_bytes xs ++ more))
  first-stands h = (let s = h.stands in subst (StandsAt bytes at) (append_assoc (rec_bytes (alt_of x)) (alts_bytes xs) more) s)

  pub first-ends : AltsTold i files name bytes last at end set (x ∷ xs) more → end ≡ at + length (rec_bytes (alt_of x) ++ (alts_bytes xs ++ more))
  first-ends h = (let e = h.ends in e ∙ ap (λ (bs : List ℕ). at + length bs) (append_assoc (rec_bytes (alt_of x)) (alts_bytes xs) more))

  or-rest : (a b : Bool) → a ≡ false → (a || b) ≡ true → b ≡ true
  or-rest true b e f = absurd cc
  or-rest false b e f = f

  -- those behind the first, which does not have the version
  pub others-told : AltsTold i files name bytes last at end set (x ∷ xs) more → has (members (set_in x.stamp set)) i ≡ false → AltsTold i files name bytes last (at + length (rec_bytes (alt_of x))) end set xs more
  others-told h none =
      let e = first-ends h in
      let r = h.records in
      record {
        tells = h.tells;
        within = h.within;
        stands = stands-back bytes at (rec_bytes (alt_of x)) (alts_bytes xs ++ more) (first-stands h);
        ends = omega (arith, e, length-append (rec_bytes (alt_of x)) (alts_bytes xs ++ more));
        records = r.1;
        has = h.has;
        some = or-rest (has (members (set_in x.stamp set)) i) (some_has i set xs) none h.some;
      }

-- the body and the bytes that are looked at, by whether the first has the version
eff-has : (i : ℕ) (set : List (ℕ × ℕ)) (x : PlainAlt) (b : Bool) → has (members (set_in x.stamp set)) i ≡ b → has (eff x.stamp (members set)) i ≡ b
eff-has i set x b h = ap (λ (ns : List ℕ). has ns i) (eff-members x.stamp set) ∙ h

pub body-first : (i : ℕ) (set : List (ℕ × ℕ)) (x : PlainAlt) (xs : List PlainAlt) → has (members (set_in x.stamp set)) i ≡ true → body_at i (members set) (x ∷ xs) ≡ x.body
body-first i set x xs h = ap (λ b. cond b x.body (body_at i (members set) xs)) (eff-has i set x true h)

pub body-others : (i : ℕ) (set : List (ℕ × ℕ)) (x : PlainAlt) (xs : List PlainAlt) → has (members (set_in x.stamp set)) i ≡ false → body_at i (members set) (x ∷ xs) ≡ body_at i (members set) xs
body-others i set x xs h = ap (λ b. cond b x.body (body_at i (members set) xs)) (eff-has i set x false h)

read-first : (i : ℕ) (set : List (ℕ × ℕ)) (x : PlainAlt) (xs : List PlainAlt) → has (members (set_in x.stamp set)) i ≡ true → alts_read i set (x ∷ xs) ≡ stamp_read x.stamp + length (value_bytes x.body)
read-first i set x xs h = ap (λ b. stamp_read x.stamp + cond b (length (value_bytes x.body)) (alts_read i set xs)) h

read-others : (i : ℕ) (set : List (ℕ × ℕ)) (x : PlainAlt) (xs : List PlainAlt) → has (members (set_in x.stamp set)) i ≡ false → alts_read i set (x ∷ xs) ≡ stamp_read x.stamp + alts_read i set xs
read-others i set x xs h = ap (λ b. stamp_read x.stamp + cond b (length (value_bytes x.body)) (alts_read i set xs)) h

-- the first ten bytes of an alternative
pub stamp-begun : (s : Stamp) → 10 ≤ stamp_read s
stamp-begun None = omega arith
stamp-begun (Some s) = omega arith

-- ---- one alternative

pub stamp-stands : (bytes : List ℕ) (at : ℕ) (x : PlainAlt) (more : List ℕ) → StandsAt bytes at (rec_bytes (alt_of x) ++ more) → StandsAt bytes (at + 9) (stamp_bytes x.stamp)
stamp-stands bytes at x more h = stands-front bytes (at + 9) (stamp_bytes x.stamp) (value_bytes x.body) (body-stands bytes at (alt_of x) more h)

pub value-stands : (bytes : List ℕ) (at : ℕ) (x : PlainAlt) (more : List ℕ) → StandsAt bytes at (rec_bytes (alt_of x) ++ more) → StandsAt bytes (at + 9 + length (stamp_bytes x.stamp)) (value_bytes x.body)
value-stands bytes at x more h = stands-back bytes (at + 9) (stamp_bytes x.stamp) (value_bytes x.body) (body-stands bytes at (alt_of x) more h)

pub alt-length : (x : PlainAlt) → length (rec_bytes (alt_of x)) ≡ 9 + length (stamp_bytes x.stamp) + length (value_bytes x.body)
alt-length x = omega (arith, rec-length (alt_of x), length-append (stamp_bytes x.stamp) (value_bytes x.body))

pub alt-parts : (x : PlainAlt) → IsRec (alt_of x) → IsStamp x.stamp × IsValue x.body
alt-parts x h = h.body

-- ---- the loop

-- These alternatives are left, and what was pulled so far is what is looked at of the others.
pub record AltsLeft (i : ℕ) (files : Option Files) (name bytes : List ℕ) (last at end : ℕ) (set : List (ℕ × ℕ)) (xs : List PlainAlt) (more : List ℕ) (old now : Numbers) : Type 0 where
  pub left : List PlainAlt
  pub told : AltsTold i files name bytes last at end set left more
  pub body : body_at i (members set) left ≡ body_at i (members set) xs
  pub pulled : ℕ
  pub pulls : PullsAtMost pulled old now
  pub within : pulled + alts_read i set left ≤ alts_read i set xs

-- what the reading of an alternative shows
abbrev pub AltRead : ℕ → Option Files → List ℕ → ℕ → ℕ → Numbers → Numbers → Result Alternative CursorFault → Type 0
AltRead i files name at end old now r = (last : ℕ) (bytes more : List ℕ) (set : List (ℕ × ℕ)) (x : PlainAlt) → TellsFront files name last bytes → end ≤ last
    → StandsAt bytes at (rec_bytes (alt_of x) ++ more) → end ≡ at + length (rec_bytes (alt_of x) ++ more) → IsRec (alt_of x) → has (members set) i ≡ true
    → Filled r (AltIs i at set x) × PullsAtMost (stamp_read x.stamp) old now

-- what the reading of a value shows
abbrev pub ValueRead : Option Files → List ℕ → ℕ → ℕ → (PlainKey → Type 0) → Type 0
ValueRead files name at end Shown = (last : ℕ) (bytes : List ℕ) (b : PlainKey) → TellsFront files name last bytes → end ≤ last → StandsAt bytes at (value_bytes b) → end ≡ at + length (value_bytes b) → IsValue b → Shown b

module _ (i : ℕ) (files : Option Files) (name bytes : List ℕ) (last at end : ℕ) (set : List (ℕ × ℕ)) (xs : List PlainAlt) (more : List ℕ) (a b c : Numbers) where
  pub starts : AltsTold i files name bytes last at end set xs more → IsMeter a → AltsLeft i files name bytes last at end set xs more a a
  starts h is = record { left = xs; told = h; body = refl; pulled = 0; pulls = PullsAtMost-none 0 a is; within = omega arith }

  shown-first : (x : PlainAlt) (ys : List PlainAlt) (r : Result Alternative CursorFault) → AltsTold i files name bytes last at end set (x ∷ ys) more → AltRead i files name at end b c r → Filled r (AltIs i at set x) × PullsAtMost (stamp_read x.stamp) b c
  shown-first x ys r h read =
      let rs = h.records in
      read last bytes (alts_bytes ys ++ more) set x h.tells h.within (first-stands i files name bytes last at end set x ys more h) (first-ends i files name bytes last at end set x ys more h) rs.0 h.has

  -- an alternative was not read
  fails-at : (ys : List PlainAlt) (n : ℕ) (e : CursorFault) → AltsTold i files name bytes last at end set ys more → n + alts_read i set ys ≤ alts_read i set xs → PullsAtMost n a b → AltRead i files name at end b c (Err e)
      → Filled {T = ℕ} (Err e) (λ _. ⊥) × PullsAtMost (alts_read i set xs) a c
  fails-at [] n e h fits p read = absurd (let s = h.some in cc)
  fails-at (x ∷ ys) n e h fits p read =
      let r = shown-first x ys (Err e) h read in
      (r.0, PullsAtMost-more (n + stamp_read x.stamp) (alts_read i set xs) a c (omega (arith, fits)) (PullsAtMost-trans n (stamp_read x.stamp) a b c p r.1))

  pub fails : (e : CursorFault) → AltsLeft i files name bytes last at end set xs more a b → AltRead i files name at end b c (Err e) → Filled {T = ℕ} (Err e) (λ _. ⊥) × PullsAtMost (alts_read i set xs) a c
  fails e h read = fails-at h.left h.pulled e h.told h.within h.pulls read

  -- an alternative was passed
  passes-at : (ys : List PlainAlt) (n : ℕ) (f : Alternative) (now : Option Files) → now ≡ files → AltsTold i files name bytes last at end set ys more → body_at i (members set) ys ≡ body_at i (members set) xs → n + alts_read i set ys ≤ alts_read i set xs → PullsAtMost n a b
      → AltRead i files name at end b c (Ok f) → f.has ≡ false → AltsLeft i now name bytes last f.end end set xs more a c
  passes-at [] n f now same h body fits p read none = absurd (let s = h.some in cc)
  passes-at (x ∷ ys) n f now same h body fits p read none =
      let r = shown-first x ys (Ok f) h read in
      let is = r.0 in
      let lacks = sym is.has ∙ none in
      let o = others-told i files name bytes last at end set x ys more h lacks in
      record {
        left = ys;
        told = subst (λ (t : ℕ). AltsTold i now name bytes last t end set ys more) (sym is.end) (subst (λ (z : Option Files). AltsTold i z name bytes last (at + length (rec_bytes (alt_of x))) end set ys more) (sym same) o);
        body = sym (body-others i set x ys lacks) ∙ body;
        pulled = n + stamp_read x.stamp;
        pulls = PullsAtMost-trans n (stamp_read x.stamp) a b c p r.1;
        within = omega (arith, fits, read-others i set x ys lacks);
      }

  pub passes : (f : Alternative) (now : Option Files) → now ≡ files → AltsLeft i files name bytes last at end set xs more a b → AltRead i files name at end b c (Ok f) → f.has ≡ false → AltsLeft i now name bytes last f.end end set xs more a c
  passes f now same h read none = passes-at h.left h.pulled f now same h.told h.body h.within h.pulls read none

  -- the alternative that has the version
  found-at : (ys : List PlainAlt) (n : ℕ) (f : Alternative) (now : Option Files) (d : Numbers) (Shown : PlainKey → Type 0) → now ≡ files → AltsTold i files name bytes last at end set ys more → body_at i (members set) ys ≡ body_at i (members set) xs → n + alts_read i set ys ≤ alts_read i set xs → PullsAtMost n a b
      → AltRead i files name at end b c (Ok f) → f.has ≡ true → f.end ≤ end → ValueRead now name f.body f.end Shown → PullsAtMost (f.end - f.body) c d → Shown (body_at i (members set) xs) × PullsAtMost (alts_read i set xs) a d
  found-at [] n f now d Shown same h body fits p read some within value q = absurd (let s = h.some in cc)
  found-at (x ∷ ys) n f now d Shown same h body fits p read some within value q =
      let r = shown-first x ys (Ok f) h read in
      let is = r.0 in
      let rs = h.records in
      let has' = sym is.has ∙ some in
      let w = h.within in
      let behind = is.end in
      let at' = is.body in
      let first = first-stands i files name bytes last at end set x ys more h in
      let stands = value-stands bytes at x (alts_bytes ys ++ more) first in
      let place : at + 9 + length (stamp_bytes x.stamp) ≡ f.body = omega (arith, at') in
      let shown = value last bytes x.body (subst (λ (z : Option Files). TellsFront z name last bytes) (sym same) h.tells) (omega (arith, w, within)) (subst (λ (t : ℕ). StandsAt bytes t (value_bytes x.body)) place stands) (omega (arith, behind, at', alt-length x)) (alt-parts x rs.0).1 in
      let one = stamp_read x.stamp in (
        subst Shown (sym (body-first i set x ys has') ∙ body) shown,
        PullsAtMost-more (n + one + (f.end - f.body)) (alts_read i set xs) a d (omega (arith, fits, read-first i set x ys has', behind, at', alt-length x)) (PullsAtMost-trans (n + one) (f.end - f.body) a c d (PullsAtMost-trans n one a b c p r.1) q),
      )

  pub found : (f : Alternative) (now : Option Files) (d : Numbers) (Shown : PlainKey → Type 0) → now ≡ files → AltsLeft i files name bytes last at end set xs more a b → AltRead i files name at end b c (Ok f) → f.has ≡ true → f.end ≤ end
      → ValueRead now name f.body f.end Shown → PullsAtMost (f.end - f.body) c d → Shown (body_at i (members set) xs) × PullsAtMost (alts_read i set xs) a d
  found f now d Shown same h read some within value q = found-at h.left h.pulled f now d Shown same h.told h.body h.within h.pulls read some within value q

-- ---- sets

pub clash : {X : Type 0} {x : X} → None ≡ Some x → ⊥
clash e = cc

-- the intervals of a set behind their count
set-pairs : (s : List (ℕ × ℕ)) → IsSet s → length s < 2 ^ 32 → chain_at pair_at (next_pair most) 1 (length s) (flat_map pair_bytes s) ≡ Some (s, [])
unfolding chained_at
set-pairs s h few =
    let n = u32_reads.again (length s) (flat_map pair_bytes s) few in
    let e : chained_at pair_at (next_pair most) 1 (set_bytes s) ≡ Some (s, []) = ap (chained_at pair_at (next_pair most) 1) (sym (append-nil (set_bytes s))) ∙ set_reads.again s [] h in
    ap (λ (r : Option (ℕ × List ℕ)). r >>= λ n. chain_at pair_at (next_pair most) 1 n.0 n.1) (sym n) ∙ e

module _ (s : List (ℕ × ℕ)) (bytes : List ℕ) (count : ℕ) where
  pub pairs-read : bytes ≡ flat_map pair_bytes s → count ≡ length s → IsSet s → count < 2 ^ 32 → chain_at pair_at (next_pair most) 1 count bytes ≡ Some (s, [])
  pairs-read same long is few = (λ j. chain_at pair_at (next_pair most) 1 (long j) (same j)) ∙ set-pairs s is (omega (arith, long, few))

pub count-stands : (bytes : List ℕ) (at : ℕ) (s : List (ℕ × ℕ)) → StandsAt bytes at (set_bytes s) → take 4 (drop at bytes) ≡ u32_bytes (length s)
count-stands bytes at s h = stands-front bytes at (u32_bytes (length s)) (flat_map pair_bytes s) h

pub pairs-stand : (bytes : List ℕ) (at : ℕ) (s : List (ℕ × ℕ)) → StandsAt bytes at (set_bytes s) → StandsAt bytes (at + 4) (flat_map pair_bytes s)
pairs-stand bytes at s h = stands-back bytes at (u32_bytes (length s)) (flat_map pair_bytes s) h

pub pairs-taken : (bytes lent body : List ℕ) (at count : ℕ) (s : List (ℕ × ℕ)) → lent ≡ body → body ≡ take (8 * count) (drop at bytes) → StandsAt bytes at (flat_map pair_bytes s) → count ≡ length s → lent ≡ flat_map pair_bytes s
pairs-taken bytes lent body at count s same read h e = (let n : 8 * count ≡ length (flat_map pair_bytes s) = omega (arith, e, length-pairs s) in same ∙ read ∙ ap (λ m. take m (drop at bytes)) n ∙ h)

-- ---- timestamps

-- the first ten bytes of an alternative
head-front : (bytes : List ℕ) (at size : ℕ) (s : Stamp) (value : List ℕ) → StandsAt bytes at (3 ∷ (u64_bytes size ++ (stamp_bytes s ++ value))) → take 10 (drop at bytes) ≡ head_bytes size s
head-front bytes at size None value h = stands-front bytes at (head_bytes size None) value h
head-front bytes at size (Some s) value h = stands-front bytes at (head_bytes size (Some s)) (set_bytes s ++ value) h

pub head-stands : (bytes : List ℕ) (at : ℕ) (x : PlainAlt) (more : List ℕ) → StandsAt bytes at (rec_bytes (alt_of x) ++ more) → take 10 (drop at bytes) ≡ head_bytes (length (body_bytes (alt_of x))) x.stamp
head-stands bytes at x more h = head-front bytes at (length (body_bytes (alt_of x))) x.stamp (value_bytes x.body) (stands-front bytes at (rec_bytes (alt_of x)) more h)

pub stamp-some : (s : Stamp) → 1 ≤ length (stamp_bytes s)
stamp-some None = omega arith
stamp-some (Some s) = omega arith

-- ---- values

pub whole-value : (b : PlainKey) (bytes : List ℕ) → bytes ≡ value_bytes b → IsValue b → whole value_at bytes ≡ Some b
unfolding whole
whole-value b bytes same is =
    let read : value_at bytes ≡ Some (b, []) = ap value_at (same ∙ sym (append-nil (value_bytes b))) ∙ value_reads.again b [] is in
    rw read refl

-- by the byte of its kind
module _ (bytes rest : List ℕ) where
  pub no-kind : byte_at bytes ≡ None → whole value_at bytes ≡ None
  unfolding whole value_at
  no-kind h = rw h refl

  pub no-scalar : byte_at bytes ≡ Some (0, rest) → scalar_at rest ≡ None → whole value_at bytes ≡ None
  unfolding whole value_at value_of
  no-scalar kind h = rw (kind, h) refl

  module _ (s : PlainScalar) (n : ℕ) (all : List ℕ) where
    pub scalar-more : byte_at bytes ≡ Some (0, rest) → scalar_at rest ≡ Some (s, drop n all) → n < length all → whole value_at bytes ≡ None
    unfolding whole value_at value_of
    scalar-more kind h lt =
        let some : (length (drop n all) == 0) ≡ false = (let long = length-drop n all in grind (arith, nat_tests)) in
        rw (kind, h, some) refl

    pub scalar-whole : byte_at bytes ≡ Some (0, rest) → scalar_at rest ≡ Some (s, drop n all) → length all ≤ n → whole value_at bytes ≡ Some (scalar s)
    unfolding whole value_at value_of
    scalar-whole kind h le = (let end = drop_all n all le in rw (kind, h, end) refl)

  abbrev inside-of : PlainContent × List ℕ → Option (PlainKey × List ℕ)
  inside-of c = Some (inside c.0, c.1)

  content-ends : (read : Option (PlainContent × List ℕ)) → option_map inside (read >>= λ a. if length a.1 == 0 then Some a.0 else None) ≡ ((read >>= inside-of) >>= λ a. if length a.1 == 0 then Some a.0 else None)
  content-ends None = refl
  content-ends (Some x) = ends (length x.1 == 0)
    where
      ends : (b : Bool) → option_map inside (cond b (Some x.0) None) ≡ cond b (Some (inside x.0)) None
      ends true = refl
      ends false = refl

  pub content-whole : byte_at bytes ≡ Some (1, rest) → whole_inside rest ≡ whole value_at bytes
  unfolding whole value_at value_of
  content-whole kind = rw kind (content-ends (content_at deepest rest))

  none-of : (k : ℕ) → 2 ≤ k → value_of k rest ≡ None
  unfolding value_of
  none-of zero h = absurd (omega (arith, h))
  none-of (suc zero) h = absurd (omega (arith, h))
  none-of (suc (suc k)) h = refl

  pub other-kind : (k : ℕ) → byte_at bytes ≡ Some (k, rest) → 2 ≤ k → whole value_at bytes ≡ None
  unfolding whole value_at
  other-kind k kind h = (let none = none-of k h in rw (kind, none) refl)

pub behind-kind : (at : ℕ) (bytes : List ℕ) → take (length bytes - at) (drop at bytes) ≡ drop at bytes
behind-kind at bytes = ap (λ m. take m (drop at bytes)) (sym (length-drop at bytes)) ∙ take-length (drop at bytes)

-- what is answered where the value is one
pub found-filled : (o : Option Body) (r : Result Body CursorFault) (read : Option PlainKey) (b : PlainKey) → body_found o ≡ read → read ≡ Some b → r ≡ ok_or o Damage → Filled r (λ v. body_view v ≡ Some b)
found-filled None r read b e f g = absurd (let none : None ≡ Some b = e ∙ f in cc)
found-filled (Some v) r read b e f g = subst (λ (z : Result Body CursorFault). Filled z (λ v. body_view v ≡ Some b)) (sym g) (e ∙ f)

pub value-taken : (bytes lent body : List ℕ) (at end : ℕ) (b : PlainKey) → lent ≡ body → body ≡ take (end - at) (drop at bytes) → StandsAt bytes at (value_bytes b) → end ≡ at + length (value_bytes b) → lent ≡ value_bytes b
value-taken bytes lent body at end b same read h e = (let n : end - at ≡ length (value_bytes b) = omega (arith, e) in same ∙ read ∙ ap (λ m. take m (drop at bytes)) n ∙ h)

-- a set leaves out a number behind each interval
few-from : (low : ℕ) (ps : List (ℕ × ℕ)) → IsFrom low ps → AllByRecursion (λ p. p.1 ≤ most) ps → low + 2 * length ps ≤ max low (most + 2)
few-from low [] h w = omega arith
few-from low (p ∷ ps) h w = (let a : low ≤ p.0 = h.0 in let b : p.0 ≤ p.1 = h.1 in let c : p.1 ≤ most = w.0 in omega (arith, few-from (p.1 + 2) ps h.2 w.1))

pub set-few : (s : List (ℕ × ℕ)) → IsSet s → length s < 2 ^ 32
set-few s is = omega (arith, few-from 1 s is.canonical is.within)

pub set-is : (i at count : ℕ) (s : List (ℕ × ℕ)) (found : Bool) → count ≡ length s → found ≡ has (members s) i → SetIs i (at + length (set_bytes s)) s (found, at + 4 + 8 * count)
set-is i at count s found long e = (e, omega (arith, long, length-set_bytes s))

-- the alternative whose end and stored timestamp were read
pub alt-is : (i at behind : ℕ) (set : List (ℕ × ℕ)) (x : PlainAlt) (r : Bool × ℕ) → behind ≡ at + length (rec_bytes (alt_of x)) → SetIs i (at + (9 + length (stamp_bytes x.stamp))) (set_in x.stamp set) r → AltIs i at set x (record { has = r.0; body = r.1; end = behind })
alt-is i at behind set x r e h = record { has = h.0; body = h.1; end = e }

-- what the reading of a set shows
abbrev pub SetRead : ℕ → Option Files → List ℕ → ℕ → ℕ → Numbers → Numbers → Result (Bool × ℕ) CursorFault → Type 0
SetRead i files name at end old now r = (last : ℕ) (bytes : List ℕ) (s : List (ℕ × ℕ)) → TellsFront files name last bytes → end ≤ last → StandsAt bytes at (set_bytes s) → at + length (set_bytes s) ≤ end → IsSet s
    → Filled r (SetIs i (at + length (set_bytes s)) s) × PullsAtMost (4 + 8 * searched (length s)) old now

module _ (i : ℕ) (files now : Option Files) (name bytes : List ℕ) (last at end : ℕ) (set : List (ℕ × ℕ)) where
  -- a timestamp that is stored
  pub stored-set : (s : Stamp) (a b c : Numbers) (r : Result (Bool × ℕ) CursorFault) → now ≡ files → TellsFront files name last bytes → end ≤ last → StandsAt bytes (at + 9) (stamp_bytes s) → at + 9 + length (stamp_bytes s) ≤ end → IsStamp s → true ≡ is_some s
      → PullsAtMost 10 a b → SetRead i now name (at + 10) end b c r → Filled r (SetIs i (at + (9 + length (stamp_bytes s))) (set_in s set)) × PullsAtMost (stamp_read s) a c
  stored-set None a b c r same tells within stands fits is some p read = absurd cc
  stored-set (Some s) a b c r same tells within stands fits is some p read =
      let behind : at + 9 + 1 ≡ at + 10 = omega arith in
      let there : StandsAt bytes (at + 10) (set_bytes s) = subst (λ (n : ℕ). StandsAt bytes n (set_bytes s)) behind (stands-back bytes (at + 9) (1 ∷ []) (set_bytes s) stands) in
      let got = read last bytes s (subst (λ (z : Option Files). TellsFront z name last bytes) (sym same) tells) within there (omega (arith, fits)) is.0 in
      (subst (λ n. Filled r (SetIs i n s)) (omega arith) got.0, PullsAtMost-more (10 + (4 + 8 * searched (length s))) (stamp_read (Some s)) a c (omega arith) (PullsAtMost-trans 10 (4 + 8 * searched (length s)) a b c p got.1))

-- a timestamp that is inherited
inherited-set : (i at : ℕ) (set : List (ℕ × ℕ)) (s : Stamp) → false ≡ is_some s → has (members set) i ≡ true → SetIs i (at + (9 + length (stamp_bytes s))) (set_in s set) (true, at + 10)
inherited-set i at set None none h = (sym h, omega arith)
inherited-set i at set (Some s) none h = absurd cc

pub alt-inherits : (i at behind : ℕ) (set : List (ℕ × ℕ)) (x : PlainAlt) → behind ≡ at + length (rec_bytes (alt_of x)) → false ≡ is_some x.stamp → has (members set) i ≡ true → AltIs i at set x (record { has = true; body = at + 10; end = behind })
alt-inherits i at behind set x e none h = alt-is i at behind set x (true, at + 10) e (inherited-set i at set x.stamp none h)

-- the size of an alternative's body
pub alt-size : (x : PlainAlt) (more : List ℕ) (at end : ℕ) → end ≡ at + length (rec_bytes (alt_of x) ++ more) → (1 ≤ length (body_bytes (alt_of x))) × (9 + length (body_bytes (alt_of x)) ≤ end - at)
alt-size x more at end e = (omega (arith, length-append (stamp_bytes x.stamp) (value_bytes x.body), stamp-some x.stamp), omega (arith, e, length-append (rec_bytes (alt_of x)) more, rec-length (alt_of x)))
