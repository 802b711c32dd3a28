-- The records of a text, as a reader comes to them one after the other.
use Rattle.std.proofs.Common.{◌≡◌, ℕ, zero, suc, ◌+◌, ◌<◌, ◌≤◌, ◌==◌, ◌||◌, Bool, true, false, cond, List, [], ◌∷◌, ◌++◌, length, Some, None, refl, ap, sym, ◌∙◌, subst, arith}
use Rattle.std.proofs.lemmas.Bool.{true≢false}
use Rattle.std.proofs.lemmas.List.{append-nil}
use Rattle.csv.specs.Machine.{Read, next_record, step, in_field, start_field, start_record, is_end, fields_after, field_after, ends_at_end}
use Rattle.csv.specs.Reading.{Reached, default_config, records, records_from, records_next, strip_bom, is_bom}
use Rattle.csv.specs.declared.parser.Action.{Action}
use Rattle.csv.specs.declared.parser.Action.TheVariants as act
use Rattle.csv.specs.declared.parser.State.{State}
use Rattle.csv.specs.declared.parser.State.TheVariants as st

-- ---- the state behind a record is one in which no record has begun

abbrev Rests : State × Action → Type 0
Rests o = is_end o.1 ≡ true → ends_at_end o.0 ≡ false

no_end : {P : Type 0} → false ≡ true → P
no_end e = absurd (true≢false (sym e))

either : (p : Bool) (a b : State × Action) → Rests a → Rests b → Rests (cond p a b)
either true a b f g = f
either false a b f g = g

after_end : (p : Bool) → Rests (cond p st.AfterCr st.StartRecord, act.EndRecord)
after_end true e = refl
after_end false e = refl

field-rests : (c : ℕ) → Rests (in_field default_config c)
field-rests c =
    either (c == 44) (st.StartField, act.EndField) _ no_end
    (either ((c == 13) || (c == 10)) (cond (c == 13) st.AfterCr st.StartRecord, act.EndRecord) (st.InField, act.Copy) (after_end (c == 13)) no_end)

start_field-rests : (c : ℕ) → Rests (start_field default_config c)
start_field-rests c = either (c == 34) (st.InQuoted, act.Skip) (in_field default_config c) no_end (field-rests c)

start_record-rests : (c : ℕ) → Rests (start_record default_config c)
start_record-rests c = either ((c == 13) || (c == 10)) (st.StartRecord, act.Skip) (start_field default_config c) no_end (start_field-rests c)

step-rests : (s : State) (c : ℕ) → Rests (step default_config s c)
step-rests st.StartRecord c = start_record-rests c
step-rests st.StartField c = start_field-rests c
step-rests st.InField c = field-rests c
step-rests st.InQuoted c = either (c == 34) (st.AfterQuote, act.Skip) (st.InQuoted, act.Copy) no_end no_end
step-rests st.InEscape c = no_end
step-rests st.AfterQuote c = either (c == 34) (st.InQuoted, act.Copy) (in_field default_config c) no_end (field-rests c)
step-rests st.InComment c = either (c == 10) (st.StartRecord, act.Skip) (st.InComment, act.Skip) no_end no_end
step-rests st.AfterCr c = either (c == 10) (st.StartRecord, act.Skip) (start_record default_config c) no_end (start_record-rests c)

-- ---- a record takes a byte at least

record Consumes (s : State) (xs : List ℕ) (p : Read) : Type 0 where
  rests : ends_at_end p.1 ≡ false
  less : length p.2 ≤ length xs
  some : ends_at_end s ≡ false → length p.2 + 1 ≤ length xs

at_end : (s : State) (b : Bool) (fields : List (List ℕ)) (p : Read) → ends_at_end s ≡ b → cond b (Some (fields, st.StartRecord, [])) None ≡ Some p → Consumes s [] p
at_end s true fields p h e =
    let same : (fields, st.StartRecord, []) ≡ p = cc in
    subst (Consumes s []) same (record { rests = refl; less = omega arith; some = λ g. absurd (true≢false (sym h ∙ g)) })
at_end s false fields p h e = cc

next-consumes : (xs : List ℕ) (s : State) (fields : List (List ℕ)) (field : List ℕ) (p : Read) → next_record default_config s fields field xs ≡ Some p → Consumes s xs p
unfolding next_record
next-consumes [] s fields field p e = at_end s (ends_at_end s) (fields ++ (field ∷ [])) p refl e
next-consumes (c ∷ rest) s fields field p e = at_byte (is_end (step default_config s c).1) refl e (next-consumes rest (step default_config s c).0 (fields_after (step default_config s c).1 fields field) (field_after (step default_config s c).1 c field) p)
  where
    at_byte : (b : Bool) → is_end (step default_config s c).1 ≡ b
        → cond b (Some (fields_after (step default_config s c).1 fields field, (step default_config s c).0, rest)) (next_record default_config (step default_config s c).0 (fields_after (step default_config s c).1 fields field) (field_after (step default_config s c).1 c field) rest) ≡ Some p
        → (next_record default_config (step default_config s c).0 (fields_after (step default_config s c).1 fields field) (field_after (step default_config s c).1 c field) rest ≡ Some p → Consumes (step default_config s c).0 rest p)
        → Consumes s (c ∷ rest) p
    at_byte true h e more =
        let same : (fields_after (step default_config s c).1 fields field, (step default_config s c).0, rest) ≡ p = cc in
        subst (Consumes s (c ∷ rest)) same (record { rests = step-rests s c h; less = omega arith; some = λ g. omega arith })
    at_byte false h e more =
        let m = more e in
        record { rests = m.rests; less = omega (arith, m.less); some = λ g. omega (arith, m.less) }

-- ---- all records, from those that are reached

record Behind (n : ℕ) (s : State) (xs : List ℕ) (done : List (List (List ℕ))) (s2 : State) (ys : List ℕ) : Type 0 where
  turns : ℕ
  are : records_from default_config n s xs ≡ done ++ records_from default_config turns s2 ys
  enough : length ys < turns
  rests : ends_at_end s2 ≡ false
  few : length done + length ys ≤ length xs

one-more : (r : List (List ℕ)) (rs : List (List (List ℕ))) (n : ℕ) (s s2 : State) (xs ys : List ℕ) (p : Read) → next_record default_config s [] [] xs ≡ Some p → r ≡ p.0 → length p.2 + 1 ≤ length xs
    → Behind n p.1 p.2 rs s2 ys → Behind (suc n) s xs (r ∷ rs) s2 ys
unfolding records_from
one-more r rs n s s2 xs ys p e q some rest =
    record {
      turns = rest.turns;
      are = ap (records_next (records_from default_config n)) e ∙ ap (λ (z : List (List ℕ)). z ∷ records_from default_config n p.1 p.2) (sym q) ∙ ap (λ (z : List (List (List ℕ))). r ∷ z) rest.are;
      enough = rest.enough;
      rests = rest.rests;
      few = omega (arith, rest.few, some);
    }

behind : (done : List (List (List ℕ))) (n : ℕ) (s s2 : State) (xs ys : List ℕ) → ends_at_end s ≡ false → length xs < n → Reached default_config s xs done s2 ys → Behind n s xs done s2 ys
unfolding Reached
behind [] n s s2 xs ys rests enough h =
    let same : Behind n s xs [] s xs = record { turns = n; are = refl; enough = enough; rests = rests; few = omega arith } in
    subst (λ z. Behind n s xs [] s2 z) h.1 (subst (λ z. Behind n s xs [] z xs) h.0 same)
behind (r ∷ rs) zero s s2 xs ys rests enough h = absurd (omega arith)
behind (r ∷ rs) (suc n) s s2 xs ys rests enough h =
    let eaten = next-consumes xs s [] [] h.0 h.1 in
    let some = eaten.some rests in
    one-more r rs n s s2 xs ys h.0 h.1 h.2 some (behind rs n h.0.1 s2 h.0.2 ys eaten.rests (omega (arith, some, enough)) h.3)

all-behind : (done : List (List (List ℕ))) (s2 : State) (xs ys : List ℕ) → Reached default_config st.StartRecord xs done s2 ys → Behind (length xs + 1) st.StartRecord xs done s2 ys
all-behind done s2 xs ys h = behind done (length xs + 1) st.StartRecord s2 xs ys refl (omega arith) h

stops : (turns : ℕ) (s2 : State) (ys : List ℕ) → next_record default_config s2 [] [] ys ≡ None → records_from default_config turns s2 ys ≡ []
unfolding records_from
stops zero s2 ys e = refl
stops (suc n) s2 ys e = rw e refl

-- where no other record comes, these are all
pub records-end : (done : List (List (List ℕ))) (s2 : State) (xs ys : List ℕ) → Reached default_config st.StartRecord xs done s2 ys → next_record default_config s2 [] [] ys ≡ None → records default_config xs ≡ done
records-end done s2 xs ys h e =
    let b = all-behind done s2 xs ys h in
    b.are ∙ ap (λ (z : List (List (List ℕ))). done ++ z) (stops b.turns s2 ys e) ∙ append-nil done

goes_on : (turns : ℕ) (s2 : State) (ys : List ℕ) (p : Read) → length ys < turns → next_record default_config s2 [] [] ys ≡ Some p → (more : List (List (List ℕ))) × (records_from default_config turns s2 ys ≡ p.0 ∷ more)
unfolding records_from
goes_on zero s2 ys p low e = absurd (omega arith)
goes_on (suc n) s2 ys p low e = (records_from default_config n p.1 p.2, rw e refl)

-- where another one comes, it follows these
pub records-more : (done : List (List (List ℕ))) (s2 : State) (xs ys : List ℕ) (p : Read) → Reached default_config st.StartRecord xs done s2 ys → next_record default_config s2 [] [] ys ≡ Some p
    → (more : List (List (List ℕ))) × (records default_config xs ≡ done ++ p.0 ∷ more)
records-more done s2 xs ys p h e =
    let b = all-behind done s2 xs ys h in
    let m = goes_on b.turns s2 ys p b.enough e in
    (m.0, b.are ∙ ap (λ (z : List (List (List ℕ))). done ++ z) m.1)

-- there are no more records than bytes
pub reached-few : (done : List (List (List ℕ))) (s2 : State) (xs ys : List ℕ) → Reached default_config st.StartRecord xs done s2 ys → length done ≤ length xs
reached-few done s2 xs ys h = let b = all-behind done s2 xs ys h in omega (arith, b.few)

-- all records begin with those that are reached
pub records-begin : (done : List (List (List ℕ))) (s2 : State) (xs ys : List ℕ) → Reached default_config st.StartRecord xs done s2 ys → (rest : List (List (List ℕ))) × (records default_config xs ≡ done ++ rest)
records-begin done s2 xs ys h = let b = all-behind done s2 xs ys h in (records_from default_config b.turns s2 ys, b.are)

-- the text behind a byte order mark is no longer
pub strip-shorter : (bytes : List ℕ) → length (strip_bom bytes) ≤ length bytes
unfolding strip_bom
strip-shorter [] = omega arith
strip-shorter (a ∷ []) = omega arith
strip-shorter (a ∷ b ∷ []) = omega arith
strip-shorter (a ∷ b ∷ c ∷ rest) = by (is_bom a b c)
  where
    by : (m : Bool) → length (cond m rest (a ∷ b ∷ c ∷ rest)) ≤ length (a ∷ b ∷ c ∷ rest)
    by true = omega arith
    by false = omega arith
