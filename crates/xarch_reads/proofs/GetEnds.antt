-- How the parts of `get` lead to its end.
use Rattle.std.proofs.Common.{◌≡◌, ◌≢◌, ◌⊎◌, inl, inr, ℕ, zero, suc, ◌+◌, ◌≤◌, ◌&&◌, Bool, true, false, cond, nat_le, List, length, take, Option, Some, None, IsSome, Result, Ok, Err, IfErr, refl, sym, ap, ◌∙◌, subst, arith, true≢false}
use Rattle.std.specs.Result.{is_ok}
use Rattle.std.proofs.lemmas.Bool.{and_from, and_parts, le-leb, leb-true}
use Rattle.std.proofs.lemmas.Option.{slice_get_cases}
use Rattle.xa_outside.specs.Folder.{Files}
use Rattle.xa_outside.specs.Numbers.{Numbers, PullsAtMost}
use Rattle.xa_outside.specs.NumberLaws.{PullsAtMost-more, PullsAtMost-trans}
use Rattle.xa_outside.specs.Taken.{Taken, Takes, TakesNone, TakesPrefix, Puts}
use Rattle.key_spec.specs.Data.{PlainRule}
use Rattle.keyed_tree.specs.Data.{PlainKeyed}
use Rattle.archive_tree.specs.Data.{PlainArchive}
use Rattle.archive_tree.specs.Stands.{version_of, ArchiveOf}
use Rattle.record_cursor.specs.Moves.{TellsFront}
use Rattle.record_format.specs.Files.{FileOf}
use Rattle.record_format.specs.Fronts.{fixed}
use Rattle.record_format.specs.Seen.{seen}
use Rattle.archive_file.specs.Sound.{SoundAs}
use Rattle.file_get.specs.Told as told
use Rattle.file_get.specs.Told.{IsCaused, Judges}
use Rattle.file_get.specs.Written.{IsUncounted}
use Rattle.file_get.specs.declared.fault.GetFault.{GetFault}
use Rattle.file_get.specs.declared.fault.GetFault.TheVariants.{NoVersion, Damage, Folder, Out, Memory}
use Rattle.keyed_print.specs.KeyedText.{keyed_text}
use Rattle.xarch_words.specs.Commands.{get}
use Rattle.xarch_words.specs.Refusal.{Refusal, no_version, damaged, PlainFault, refused, folder_fault, out_fault, memory}
use Rattle.xarch_parts.specs.Allowed.{MayEnd, MayEndLate, PutSome}
use Rattle.xarch_parts.specs.AllowedLaws.{defined_refused, MayEnd-did, MayEnd-outside, MayEnd-refused}
use Rattle.version_notes.specs.Parts.{parts_behind, parts_in}
use Rattle.version_notes.specs.declared.parts.Parts.{Parts}
use Rattle.noted_file.specs.Contents.{Contents}
use Rattle.noted_file.specs.Full.{FullAs}
use Rattle.xarch_parts.specs.Archives.{ArchiveIs, CoreIs, GoesOn, NoRefusal, PartsAre}
use Rattle.xarch_parts.specs.CoreLaws.{core-read, core-sound, core-told, no-core, no-parts, of-parts}
use Rattle.xarch_parts.specs.Readings.{parts_of}
use Rattle.xarch_parts.specs.Ends.{EndsGained, Gained, IsDefined, IsInside, IsOfCommand, IsOfFolder, TellsOnly}
use Rattle.xarch_parts.specs.Ends as ends
use Rattle.xarch_parts.specs.FolderLaws.{caused-read, caused-then, keeps-read, reads-then}
use Rattle.xarch_parts.specs.Folders.{Counts, Keeps, ReadsOnly}
use Rattle.xarch_parts.specs.Inputs.{read_in}
use Rattle.xarch_parts.specs.Outcome.{Outcome, and_then, or_refuse}
use Rattle.xarch_meanings.specs.Get.{get_input, is_version, version_bytes, version_text}
use Rattle.xarch_meanings.specs.Over.{MayWrite}
use Rattle.xarch_meanings.specs.Meanings.{GainsBy, MayBe, MayComeLate, ReadsLittle}
use Rattle.xarch_meanings.specs.Texts.{TellsTexts}
use Rattle.xarch_reads.specs.Written.{IsWrittenAs, Writes, WrittenState, written_state}
use Rattle.xarch_reads.proofs.LateEnds.{all-of, front-of, no_folder, no_memory, no_out, outside}

-- ---- numbers of versions

abbrev is_counted : ℕ → ℕ → Bool
is_counted n i = nat_le 1 i && nat_le i n

counted-or-not : (n i : ℕ) → ((is_counted n i ≡ true) × told.is_version i n) ⊎ ((is_counted n i ≡ false) × ¬ told.is_version i n)
counted-or-not n i = by_test (is_counted n i) refl
  where
    by_test : (b : Bool) → is_counted n i ≡ b → ((b ≡ true) × told.is_version i n) ⊎ ((b ≡ false) × ¬ told.is_version i n)
    by_test true e = (let two = and_parts (nat_le 1 i) (nat_le i n) e in inl (refl, (leb-true 1 i two.0, leb-true i n two.1)))
    by_test false e = inr (refl, λ v. (let yes = and_from (nat_le 1 i) (nat_le i n) (le-leb 1 i v.0) (le-leb i n v.1) in true≢false (sym yes ∙ e)))

-- a version of that number is there exactly where the numbers say so
version_there : (vs : List PlainKeyed) (i : ℕ) → (told.is_version i (length vs) → IsSome (version_of vs i)) × (¬ told.is_version i (length vs) → version_of vs i ≡ None)
version_there vs zero = (λ v. (let low = v.0 in absurd (omega (arith, low))), λ out. refl)
version_there vs (suc j) = elim (slice_get_cases vs j).1 [
  | inl h ↦ (let high = h.1 in (λ v. subst (λ (o : Option PlainKeyed). IsSome o) (sym h.2) refl, λ out. absurd (out (omega arith, omega (arith, high)))))
  | inr h ↦ (let low = h.0 in (λ v. (let high = v.1 in absurd (omega (arith, low, high))), λ out. h.1))
]

-- no more is looked at than for the version that is there
pub little-of : (a : PlainArchive) (i : ℕ) (x y : Numbers) → (told.is_version i a.n → PullsAtMost (22 + seen a i) x y) × (¬ told.is_version i a.n → PullsAtMost 22 x y) → PullsAtMost (22 + version_bytes a i) x y
little-of a i x y few = elim (counted-or-not a.n i) [
  | inl h ↦ subst (λ b. PullsAtMost (22 + cond b (seen a i) 0) x y) (sym h.0) (few.0 h.1)
  | inr h ↦ subst (λ b. PullsAtMost (22 + cond b (seen a i) 0) x y) (sym h.0) (PullsAtMost-more 22 (22 + 0) x y (omega arith) (few.1 h.1))
]

-- ---- what may come

-- From what is known of all archive files: the number of their versions stands in their header; and of all with notes: where their parts stand.
module _ (counted : (rules : List PlainRule) (vs : List PlainKeyed) (bytes : List ℕ) → FileOf rules vs bytes → fixed bytes ≡ Some (length vs))
    (has_parts : (c : Contents) (bytes : List ℕ) (full : FullAs c bytes) → parts_in bytes ≡ Some (parts_behind full.core c.notes))
    (files : Files) (name : List ℕ) (i size : ℕ) (bytes : List ℕ) (there : CoreIs files name size bytes) where
  abbrev judged : Option ℕ → Result (List ℕ) Refusal
  judged o = and_then (or_refuse o (damaged name)) (λ n. and_then (is_version n i) (λ _. Ok bytes))

  input-is : (o : Option ℕ) → fixed bytes ≡ o → get_input files name i ≡ judged o
  input-is o e =
      ap (λ x. and_then x (λ b. and_then (or_refuse (fixed b) (damaged name)) (λ n. and_then (is_version n i) (λ _. Ok b)))) (core-read files name size bytes there)
      ∙ ap judged e

  -- a sound archive of this name has these bytes before its notes
  own-sound : (c : Contents) → ArchiveIs files name c → SoundAs c.rules c.versions bytes
  own-sound c a = core-sound has_parts files name c a size bytes there

  -- its header counts its versions
  own-count : (n : ℕ) (c : Contents) → fixed bytes ≡ Some n → ArchiveIs files name c → n ≡ length c.versions
  own-count n c e a = let both : Some n ≡ Some (length c.versions) = sym e ∙ counted c.rules c.versions bytes (own-sound c a).file in cc

  -- no header stands in front
  no_header : fixed bytes ≡ None → MayBe files (get name i) (Err (damaged name))
  no_header e = record {
    whatever = subst (λ x. GoesOn x (λ _. MayWrite files name) (Err (damaged name))) (sym (input-is None e)) refl;
    sound = λ c a. (let wrong : Some (length c.versions) ≡ None = sym (counted c.rules c.versions bytes (own-sound c a).file) ∙ e in absurd cc);
  }

  module _ (n : ℕ) (e : fixed bytes ≡ Some n) where
    -- there is no such version
    none-counted : is_counted n i ≡ false → ¬ told.is_version i n → MayBe files (get name i) (Err (no_version i n))
    none-counted uncounted out =
        let input : get_input files name i ≡ Err (no_version i n) = input-is (Some n) e ∙ ap (λ b. and_then (cond b (Ok tt) (Err (no_version i n))) (λ _. Ok bytes)) uncounted in
        record {
          whatever = subst (λ x. GoesOn x (λ _. MayWrite files name) (Err (no_version i n))) (sym input) refl;
          sound = λ c a. (
              let same = own-count n c e a in
              let none = (version_there c.versions i).1 (subst (λ m. ¬ told.is_version i m) same out) in
              ap (λ m. Err (no_version i m)) same ∙ sym (ap (λ o. and_then (or_refuse o (no_version i (length c.versions))) (λ k. Ok (record { files = files; output = keyed_text k }))) none));
        }

    module _ (yes : is_counted n i ≡ true) (is : told.is_version i n) where
      pub counted-input : get_input files name i ≡ Ok bytes
      counted-input = input-is (Some n) e ∙ ap (λ b. and_then (cond b (Ok tt) (Err (no_version i n))) (λ _. Ok bytes)) yes

      -- the version that a sound archive has
      own-version : (c : Contents) → ArchiveIs files name c → IsSome (version_of c.versions i)
      own-version c a = (version_there c.versions i).0 (subst (λ m. told.is_version i m) (own-count n c e a) is)

      written-text : (vs : List PlainKeyed) (output : List ℕ) (o : Option PlainKeyed) → version_of vs i ≡ o → IsSome o → ((k : PlainKeyed) → version_of vs i ≡ Some k → output ≡ keyed_text k)
          → Ok (record { files = files; output = output }) ≡ version_text files vs i
      written-text vs output None at some h = cc
      written-text vs output (Some k) at some h =
          ap (λ (x : List ℕ). Ok (record { files = files; output = x })) (h k at)
          ∙ sym (ap (λ o. and_then (or_refuse o (no_version i (length vs))) (λ k. Ok (record { files = files; output = keyed_text k }))) at)

      -- something is written, which is the version of a sound archive
      may-write : (output : List ℕ) → ((rules : List PlainRule) (vs : List PlainKeyed) (k : PlainKeyed) → SoundAs rules vs bytes → version_of vs i ≡ Some k → output ≡ keyed_text k)
          → MayBe files (get name i) (Ok (record { files = files; output = output }))
      may-write output h =
          let r : Result Outcome Refusal = Ok (record { files = files; output = output }) in
          record {
            whatever = subst (λ x. GoesOn x (λ _. MayWrite files name) r) (sym counted-input) (inr (record { output = output; is = refl }));
            sound = λ c a. written-text c.versions output (version_of c.versions i) refl (own-version c a) (λ k at. h c.rules c.versions k (own-sound c a) at);
          }

      -- the archive is damaged
      may-refuse : ((rules : List PlainRule) (vs : List PlainKeyed) → ¬ SoundAs rules vs bytes) → MayBe files (get name i) (Err (damaged name))
      may-refuse none = record {
        whatever = subst (λ x. GoesOn x (λ _. MayWrite files name) (Err (damaged name))) (sym counted-input) (inl refl);
        sound = λ c a. absurd (none c.rules c.versions (own-sound c a));
      }

  -- ---- how the writing ends

  -- What is known of the writing, over files that are told, and what comes of it.
  module _ (text : List ℕ → ℕ → List ℕ) (texts : TellsTexts text) (after : Option Files) (same : after ≡ Some files) (old new : Taken) (gained : (g : List ℕ) × Takes old new g) where
    abbrev Allowed : Result Outcome Refusal → Type 0
    Allowed r = MayBe files (get name i) r

    -- some of the version's text was written before the outside failed, or nothing
    stopped : (v : PlainFault) → NoRefusal v → (IsUncounted i (fixed bytes) → TakesNone old new)
        → ((rules : List PlainRule) (vs : List PlainKeyed) (k : PlainKeyed) → SoundAs rules vs bytes → version_of vs i ≡ Some k → TakesPrefix old new (keyed_text k))
        → MayEnd Allowed (Some v) after old new
    stopped v other uncounted front = MayEnd-outside Allowed v after old new other (by_count (fixed bytes) refl)
      where
        by_count : (o : Option ℕ) → fixed bytes ≡ o → TakesNone old new ⊎ PutSome Allowed old new
        by_count None e = inl (uncounted (subst (IsUncounted i) (sym e) tt))
        by_count (Some n) e = elim (counted-or-not n i) [
          | inl h ↦ (let w = front-of old new (text bytes i) gained.0 gained.1 in
              inr (record {
                outcome = Ok (record { files = files; output = w.output });
                may = may-write n e h.0 h.1 w.output (λ rules vs k sound at. (let is = texts.is bytes rules vs i k sound at in w.own (subst (TakesPrefix old new) (sym is) (front rules vs k sound at)) ∙ is));
                output = w.has;
              }))
          | inr h ↦ inl (uncounted (subst (IsUncounted i) (sym e) h.1))
        ]

    -- the version was written
    finished : Judges i (fixed bytes) None → ((rules : List PlainRule) (vs : List PlainKeyed) (k : PlainKeyed) → SoundAs rules vs bytes → version_of vs i ≡ Some k → Takes old new (keyed_text k))
        → MayEnd Allowed None after old new
    finished judges all = by_count (fixed bytes) refl judges
      where
        tells : TellsOnly after files
        tells = λ f now. (let both : Some files ≡ Some f = sym same ∙ now in cc)

        by_count : (o : Option ℕ) → fixed bytes ≡ o → Judges i o None → MayEnd Allowed None after old new
        by_count None e j = absurd j
        by_count (Some n) e j = elim (counted-or-not n i) [
          | inl h ↦ (let w = all-of old new (text bytes i) gained.0 gained.1 in
              MayEnd-did Allowed (record { files = files; output = w.output }) after old new
              (may-write n e h.0 h.1 w.output (λ rules vs k sound at. (let is = texts.is bytes rules vs i k sound at in w.own (subst (Takes old new) (sym is) (all rules vs k sound at)) ∙ is))) tells w.has)
          | inr h ↦ absurd (h.1 j)
        ]

    -- there is no such version
    missing : (m : ℕ) → Judges i (fixed bytes) (Some (NoVersion m)) → TakesNone old new → MayEnd Allowed (Some (refused (no_version i m))) after old new
    missing m judges none = by_count (fixed bytes) refl judges
      where
        by_count : (o : Option ℕ) → fixed bytes ≡ o → Judges i o (Some (NoVersion m)) → MayEnd Allowed (Some (refused (no_version i m))) after old new
        by_count None e j = absurd j
        by_count (Some n) e j = elim (counted-or-not n i) [
          | inl h ↦ absurd (j.1 h.1)
          | inr h ↦ MayEnd-refused Allowed (no_version i m) after old new (subst (λ q. Allowed (Err (no_version i q))) (sym j.0) (none-counted n e h.0 h.1)) none
        ]

    -- damage was met
    met : Judges i (fixed bytes) (Some Damage) → (IsUncounted i (fixed bytes) → TakesNone old new) → ((rules : List PlainRule) (vs : List PlainKeyed) → ¬ SoundAs rules vs bytes)
        → MayEndLate (MayComeLate files (Some (get name i))) Allowed (Some (refused (damaged name))) after old new
    met judges uncounted none = by_count (fixed bytes) refl judges
      where
        by_count : (o : Option ℕ) → fixed bytes ≡ o → Judges i o (Some Damage) → MayEndLate (MayComeLate files (Some (get name i))) Allowed (Some (refused (damaged name))) after old new
        by_count None e j = inl (MayEnd-refused Allowed (damaged name) after old new (no_header e) (uncounted (subst (IsUncounted i) (sym e) tt)))
        by_count (Some n) e j = elim (counted-or-not n i) [
          | inl h ↦ inr (record {
            refusal = damaged name;
            is = refl;
            late = (refl, ap is_ok (counted-input n e h.0 h.1));
            may = may-refuse n e h.0 h.1 none;
            output = record { bytes = gained.0; takes = gained.1 };
          })
          | inr h ↦ absurd (h.1 j)
        ]

-- ---- from what is said of the writing

-- what is said of it
pub record WroteSo (name : List ℕ) (size i : ℕ) (s t : WrittenState) (r : Result Unit GetFault) : Type 0 where
  pub judges : (bytes : List ℕ) → TellsFront s.files name size bytes → Judges i (fixed bytes) (told.fault_of r)
  pub uncounted : (bytes : List ℕ) → TellsFront s.files name size bytes → IsUncounted i (fixed bytes) → TakesNone s.taken t.taken
  pub nothing : (n : ℕ) → told.fault_of r ≡ Some (NoVersion n) → TakesNone s.taken t.taken
  pub text : (bytes : List ℕ) (rules : List PlainRule) (vs : List PlainKeyed) (k : PlainKeyed) → TellsFront s.files name size bytes → SoundAs rules vs bytes → version_of vs i ≡ Some k → Puts s.taken t.taken r (keyed_text k)
  pub undamaged : (bytes : List ℕ) (rules : List PlainRule) (vs : List PlainKeyed) → TellsFront s.files name size bytes → SoundAs rules vs bytes → IfErr r (λ e. e ≢ Damage)
  pub gained : (bytes : List ℕ) × Takes s.taken t.taken bytes
  pub same_files : t.files ≡ s.files
  pub same_draft : t.draft ≡ s.draft
  pub later : s.faults ≤ t.faults
  pub out_later : s.out_faults ≤ t.out_faults
  pub cause : IsCaused s.faults t.faults s.out_faults t.out_faults (told.fault_of r)
  pub pulls : PullsAtMost size s.numbers t.numbers
  pub few : (bytes : List ℕ) (rules : List PlainRule) (vs : List PlainKeyed) (a : PlainArchive) → TellsFront s.files name size bytes → SoundAs rules vs bytes → ArchiveOf vs a
      → (told.is_version i a.n → PullsAtMost (22 + seen a i) s.numbers t.numbers) × (¬ told.is_version i a.n → PullsAtMost 22 s.numbers t.numbers)

module _ (name : List ℕ) (i : ℕ) where
  cause-of : (e : GetFault) (v : PlainFault) (a b c d : ℕ) → IsWrittenAs name i e v → IsCaused a b c d (Some e) → IsOfCommand a b c d (Some v)
  unfolding IsInside IsOfFolder IsOfCommand
  cause-of (NoVersion n) v a b c d is h = subst (λ (z : PlainFault). IsOfCommand a b c d (Some z)) (sym is) tt
  cause-of Damage v a b c d (inl is) h = subst (λ (z : PlainFault). IsOfCommand a b c d (Some z)) (sym is) tt
  cause-of Damage v a b c d (inr is) h = subst (λ (z : PlainFault). IsOfCommand a b c d (Some z)) (sym is) tt
  cause-of Folder v a b c d is h = subst (λ (z : PlainFault). IsOfCommand a b c d (Some z)) (sym is) h
  cause-of Out v a b c d is h = subst (λ (z : PlainFault). IsOfCommand a b c d (Some z)) (sym is) h
  cause-of Memory v a b c d is h = subst (λ (z : PlainFault). IsOfCommand a b c d (Some z)) (sym is) tt

  gained-as : (e : GetFault) (v : PlainFault) (old new : Taken) → IsWrittenAs name i e v → ((n : ℕ) → Some e ≡ Some (NoVersion n) → TakesNone old new) → Gained old new → GainsBy (Some (get name i)) (Some v) old new
  unfolding EndsGained
  gained-as (NoVersion n) v old new is nothing g = inl (subst (λ (z : PlainFault). EndsGained (Some z) old new) (sym is) (nothing n refl))
  gained-as Damage v old new (inl is) nothing g = inr (ap (λ (z : PlainFault). Some z) is, g)
  gained-as Damage v old new (inr is) nothing g = inl (subst (λ (z : PlainFault). EndsGained (Some z) old new) (sym is) g)
  gained-as Folder v old new is nothing g = inl (subst (λ (z : PlainFault). EndsGained (Some z) old new) (sym is) g)
  gained-as Out v old new is nothing g = inl (subst (λ (z : PlainFault). EndsGained (Some z) old new) (sym is) g)
  gained-as Memory v old new is nothing g = inl (subst (λ (z : PlainFault). EndsGained (Some z) old new) (sym is) g)

module _ (counted : (rules : List PlainRule) (vs : List PlainKeyed) (bytes : List ℕ) → FileOf rules vs bytes → fixed bytes ≡ Some (length vs))
    (has_parts : (c : Contents) (bytes : List ℕ) (full : FullAs c bytes) → parts_in bytes ≡ Some (parts_behind full.core c.notes))
    (text : List ℕ → ℕ → List ℕ) (texts : TellsTexts text)
    (name : List ℕ) (size i : ℕ) (s t : WrittenState) where
  front : (files : Files) (bytes : List ℕ) → s.files ≡ Some files → CoreIs files name size bytes → TellsFront s.files name size bytes
  front files bytes is_told there = core-told files s.files name size bytes is_told there

  little-in : (r : Result Unit GetFault) → WroteSo name size i s t r → (files : Files) (core : List ℕ) (c : Contents) (a : PlainArchive) → s.files ≡ Some files → CoreIs files name size core
      → ArchiveIs files name c → ArchiveOf c.versions a → PullsAtMost (22 + version_bytes a i) s.numbers t.numbers
  little-in r w files core c a is_told there is of = little-of a i s.numbers t.numbers (w.few core c.rules c.versions a (front files core is_told there) (core-sound has_parts files name c is size core there) of)

  -- it ended with this fault, over a file with these bytes
  ends-as : (e : GetFault) (v : PlainFault) → IsWrittenAs name i e v → (w : WroteSo name size i s t (Err e)) → (files : Files) (bytes : List ℕ) → s.files ≡ Some files → CoreIs files name size bytes
      → MayEndLate (MayComeLate files (Some (get name i))) (MayBe files (get name i)) (Some v) t.files s.taken t.taken
  ends-as e v is w files bytes is_told there = by_fault e v is w
    where
      at : TellsFront s.files name size bytes
      at = front files bytes is_told there

      same : t.files ≡ Some files
      same = w.same_files ∙ is_told

      some : (e : GetFault) (v : PlainFault) → NoRefusal v → WroteSo name size i s t (Err e) → MayEndLate (MayComeLate files (Some (get name i))) (MayBe files (get name i)) (Some v) t.files s.taken t.taken
      some e v other w = inl (stopped counted has_parts files name i size bytes there text texts t.files same s.taken t.taken w.gained v other (w.uncounted bytes at) (λ rules vs k sound at_i. w.text bytes rules vs k at sound at_i))

      by_fault : (e : GetFault) (v : PlainFault) → IsWrittenAs name i e v → WroteSo name size i s t (Err e) → MayEndLate (MayComeLate files (Some (get name i))) (MayBe files (get name i)) (Some v) t.files s.taken t.taken
      by_fault (NoVersion n) v is w = inl (subst (λ (z : PlainFault). MayEnd (MayBe files (get name i)) (Some z) t.files s.taken t.taken) (sym is) (missing counted has_parts files name i size bytes there text texts t.files same s.taken t.taken w.gained n (w.judges bytes at) (w.nothing n refl)))
      by_fault Damage v (inl is) w =
          subst (λ (z : PlainFault). MayEndLate (MayComeLate files (Some (get name i))) (MayBe files (get name i)) (Some z) t.files s.taken t.taken) (sym is)
          (met counted has_parts files name i size bytes there text texts t.files same s.taken t.taken w.gained (w.judges bytes at) (w.uncounted bytes at) (λ rules vs sound. w.undamaged bytes rules vs at sound refl))
      by_fault Damage v (inr is) w = some Damage v (outside v memory is no_memory) w
      by_fault Folder v is w = some Folder v (outside v folder_fault is no_folder) w
      by_fault Out v is w = some Out v (outside v out_fault is no_out) w
      by_fault Memory v is w = some Memory v (outside v memory is no_memory) w

  pub writes-failed : (e : GetFault) (v : PlainFault) → IsWrittenAs name i e v → WroteSo name size i s t (Err e) → Writes name size i s t (Some v)
  writes-failed e v is w = record {
    same_files = w.same_files;
    same_draft = w.same_draft;
    pulls = w.pulls;
    later = w.later;
    out_later = w.out_later;
    cause = cause-of name i e v s.faults t.faults s.out_faults t.out_faults is w.cause;
    gained = gained-as name i e v s.taken t.taken is w.nothing (record { bytes = w.gained.0; takes = w.gained.1 });
    may = λ files core is_told there. ends-as e v is w files core is_told there;
    little = little-in (Err e) w;
  }

  pub writes-done : WroteSo name size i s t (Ok tt) → Writes name size i s t None
  unfolding EndsGained IsInside IsOfFolder IsOfCommand
  writes-done w = record {
    same_files = w.same_files;
    same_draft = w.same_draft;
    pulls = w.pulls;
    later = w.later;
    out_later = w.out_later;
    cause = tt;
    gained = inl (record { bytes = w.gained.0; takes = w.gained.1 });
    may = λ files core is_told there. (
        let at = front files core is_told there in
        inl (finished counted has_parts files name i size core there text texts t.files (w.same_files ∙ is_told) s.taken t.taken w.gained (w.judges core at) (λ rules vs k sound at_i. w.text core rules vs k at sound at_i)));
    little = little-in (Ok tt) w;
  }

-- ---- behind the parts of the file

module _ {S K : Type 0} (files : S → Option Files) (draft : S → Option (List ℕ)) (numbers : S → Numbers) (faults : S → ℕ) (taken : K → Taken) (out_faults : K → ℕ) (name : List ℕ) (size i : ℕ) (a b c : S) (k l : K) (v : Option PlainFault)
    (asked : ReadsOnly files draft numbers faults 16 a b None) (w : Writes name size i (written_state files draft numbers faults taken out_faults b k) (written_state files draft numbers faults taken out_faults c l) v) where
  pub get-keeps : (most : ℕ) → size ≤ most → Keeps files draft numbers None (Counts None (most + 16)) a c v
  unfolding IsInside IsOfFolder
  get-keeps most fits = keeps-read (most + 16) a c None v (reads-then 16 size (most + 16) a b c None (omega (arith, fits)) asked (record { same_files = w.same_files; same_draft = w.same_draft; pulls = w.pulls; later = w.later; cause = tt }))

  pub get-caused : ends.IsCaused (faults a) (faults c) (out_faults k) (out_faults l) v
  get-caused = caused-then (faults a) (faults b) (faults c) (out_faults k) (out_faults k) (out_faults l) v (caused-read 16 a b None (out_faults k) asked) (record { folder_later = w.later; out_later = w.out_later; cause = w.cause })

  pub get-little : (parts : Parts) → parts.core ≡ size → ((fs : Files) → files a ≡ Some fs → PartsAre fs name parts) → ReadsLittle (Some (get name i)) (files a) (numbers a) (numbers c)
  get-little parts long are = λ fs held ar is at of. (
      let p = are fs is in
      let core = of-core fs name parts size long p in
      PullsAtMost-more (16 + (22 + version_bytes ar i)) (38 + version_bytes ar i) (numbers a) (numbers c) (omega arith)
      (PullsAtMost-trans 16 (22 + version_bytes ar i) (numbers a) (numbers b) (numbers c) asked.pulls (w.little fs (take parts.core p.bytes) held ar (asked.same_files ∙ is) core at of)))
    where
      of-core : (fs : Files) (name : List ℕ) (parts : Parts) (size : ℕ) → parts.core ≡ size → (p : PartsAre fs name parts) → CoreIs fs name size (take parts.core p.bytes)
      of-core fs name parts size long p = subst (λ n. CoreIs fs name n (take parts.core p.bytes)) long (of-parts fs name parts p)

-- ---- the file has no parts

pub absent-parts : (has_parts : (c : Contents) (bytes : List ℕ) (full : FullAs c bytes) → parts_in bytes ≡ Some (parts_behind full.core c.notes))
    → (files : Files) (name : List ℕ) (i : ℕ) (v : PlainFault) → IsDefined (read_in files name (parts_of name)) v → (q : Refusal) → v ≡ refused q → MayBe files (get name i) (Err q)
absent-parts has_parts files name i v d q e = record {
  whatever = subst (λ x. GoesOn x (λ _. MayWrite files name) (Err q)) (sym (no-input files name i q refuses)) refl;
  sound = λ c a. absurd (no-parts has_parts files name c a q refuses);
}
  where
    refuses : read_in files name (parts_of name) ≡ Err q
    refuses = defined_refused (read_in files name (parts_of name)) v q d e

    no-input : (files : Files) (name : List ℕ) (i : ℕ) (q : Refusal) → read_in files name (parts_of name) ≡ Err q → get_input files name i ≡ Err q
    no-input files name i q refuses = ap (λ x. and_then x (λ core. and_then (or_refuse (fixed core) (damaged name)) (λ n. and_then (is_version n i) (λ _. Ok core)))) (no-core files name q refuses)
