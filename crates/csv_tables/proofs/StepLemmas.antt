-- What a step of a reader comes to.
use Rattle.std.proofs.Common.{◌≡◌, ℕ, Bool, true, false, List, [], ◌∷◌, ◌++◌, length, Option, Some, None, Ok, IfSome, refl, ap, sym, ◌∙◌, subst, append_assoc}
use Rattle.csv.specs.Machine.{Read, next_record}
use Rattle.csv.specs.Reading.{Ready, ReadRecord, ReadsOn, ReadsNext, NextIs, ExplainsRead, reader_trim, source_of, pending_of, default_config, records, Reached}
use Rattle.csv.specs.declared.reader.Reader.{Reader}
use Rattle.csv.specs.declared.reader.Trim.TheVariants as trim
use Rattle.csv.specs.declared.error.ErrorKind.{ErrorKind}
use Rattle.csv.specs.declared.error.ErrorKind.TheVariants as kind
use Rattle.csv.specs.declared.parser.Config.{Config}
use Rattle.csv.specs.declared.parser.State.{State}
use Rattle.csv.specs.declared.parser.State.TheVariants as st
use Rattle.csv.proofs.ReadFacts.{rows-more, rows-end}
use Rattle.csv_tables.specs.Steps.{Stands, Steps, IsUneven, Continues}
use Rattle.csv_tables.proofs.RecordLemmas.{records-end, records-more, records-begin}

continues-to : (text : List ℕ) (done : List (List (List ℕ))) (fields : List (List ℕ)) (s : State) (left : List ℕ) → Reached default_config st.StartRecord text (done ++ fields ∷ []) s left → Continues text done fields
continues-to text done fields s left h =
    let b = records-begin (done ++ fields ∷ []) s text left h in
    record { more = b.0; are = b.1 ∙ append_assoc done (fields ∷ []) b.0 }

continues-as : (text : List ℕ) (done : List (List (List ℕ))) (fields found : List (List ℕ)) (more : List (List (List ℕ))) → records default_config text ≡ done ++ found ∷ more → fields ≡ found → Continues text done fields
continues-as text done fields found more e f = record { more = more; are = e ∙ ap (λ (g : List (List ℕ)). done ++ g ∷ more) (sym f) }

same_number : (m n : ℕ) → Some m ≡ Some n → m ≡ n
same_number m n e = cc

next-some : (o : Option Read) (f : List (List ℕ)) (s : State) (z : List ℕ) → NextIs o true f s z → (p : Read) × (o ≡ Some p) × (f ≡ p.0)
next-some None f s z n = cc n
next-some (Some p) f s z n = (p, refl, n.1)

took : (cfg : Config) (a b : State) (y : List ℕ) (f : List (List ℕ)) (k : Option (List ℕ)) → ReadsNext cfg a (Some y) k true f b → (p : Read) × (next_record cfg a [] [] y ≡ Some p) × (f ≡ p.0)
took cfg a b y f None r = absurd r
took cfg a b y f (Some z) r = next-some _ f b z r

module _ {R : Type 0} (rem : R → Option (List ℕ)) (old new : Reader R) (text : List ℕ) (done : List (List (List ℕ))) (columns : Option ℕ) (number : ℕ) (stands : Stands rem old text done columns) where
  pub step-ok : (fields : List (List ℕ)) (found : Bool) → (reader_trim old ≡ trim.None → Ready old → ReadRecord rem old new found fields) → (found ≡ true → ReadsOn old new)
      → Steps rem new text done columns fields number (Ok found)
  step-ok fields true reads on =
      let r = reads stands.trim stands.ready in
      let goes = on refl in
      let m = rows-more rem old new fields default_config st.StartRecord text stands.left done stands.config stands.source stands.reached r in
      let wide = r.5 refl stands.strict in
      record {
        stands = record {
          trim = goes.1 ∙ stands.trim;
          ready = (goes.4 stands.ready).0;
          config = goes.0 ∙ stands.config;
          strict = goes.2 ∙ stands.strict;
          expected = wide.1;
          left = m.0;
          source = m.1;
          reached = m.2;
        };
        even = λ n e. (
            let q : IfSome (Some n) (λ w. new.expected ≡ Some w) = subst (λ o. IfSome o (λ w. new.expected ≡ Some w)) (stands.expected ∙ e) wide.0 in
            same_number (length fields) n (sym wide.1 ∙ q));
        continues = continues-to text done fields new.state m.0 m.2;
      }
  step-ok fields false reads on =
      let r = reads stands.trim stands.ready in
      records-end done old.state text stands.left stands.reached (rows-end rem old new fields default_config stands.left stands.config stands.source r)

  pub step-uneven : (k : ErrorKind) (pos : _) (wanted len : ℕ) → k ≡ kind.UnequalLengths pos wanted len → (Ready old → ExplainsRead rem old new false k) → IsUneven text done columns
  step-uneven k pos wanted len e why =
      let w : ExplainsRead rem old new false (kind.UnequalLengths pos wanted len) = subst (ExplainsRead rem old new false) e (why stands.ready) in
      let t : ReadsNext default_config old.state (Some stands.left) (pending_of (rem new.rdr) new) true w.3 new.state =
      subst (λ o. ReadsNext default_config old.state o (pending_of (rem new.rdr) new) true w.3 new.state) stands.source
      (subst (λ cfg. ReadsNext cfg old.state (source_of rem old) (pending_of (rem new.rdr) new) true w.3 new.state) stands.config w.4) in
      let p = took default_config old.state new.state stands.left w.3 _ t in
      let m = records-more done old.state text stands.left p.0 stands.reached p.1 in
      record {
        fields = w.3;
        continues = continues-as text done w.3 p.0.0 m.0 m.1 p.2;
        wanted = wanted;
        columns_are = sym stands.expected ∙ w.1;
        other = λ q. w.2 (q ∙ w.5);
      }
