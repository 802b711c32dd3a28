-- How the parts of `join` lead to an end that it may have.
use Rattle.std.proofs.Common.{◌≡◌, ◌⊎◌, inl, inr, ℕ, ◌+◌, List, [], ◌++◌, length, take, Option, Some, None, option_map, Result, Ok, Err, refl, sym, ap, ◌∙◌, subst, length-append, arith}
use Rattle.std.specs.Prelude.{Bool, true, false, nat_le, if◌then◌else◌}
use Rattle.std.specs.Str.{bytes_eq}
use Rattle.std.specs.FinMap as map
use Rattle.xa_fields.specs.FieldLaws.{some_is}
use Rattle.xa_outside.specs.Folder.{Files}
use Rattle.xa_outside.specs.Taken.{Taken}
use Rattle.xa_outside.specs.TakenLaws.{Takes-nil}
use Rattle.key_spec.specs.Canonical.{canonical}
use Rattle.key_spec.specs.Closed.{closed}
use Rattle.key_spec.specs.Data.{PlainRule}
use Rattle.keyed_tree.specs.Data.{PlainKeyed}
use Rattle.archive_join.specs.Join.{IsArchive}
use Rattle.record_cursor.specs.View.{header_view}
use Rattle.record_format.specs.Files.{FileOf}
use Rattle.record_format.specs.Fronts.{header}
use Rattle.record_format.specs.declared.limits.TheConstants.{LONGEST}
use Rattle.version_notes.specs.Notes.{notes_part}
use Rattle.version_notes.specs.Parts.{parts_behind, parts_in}
use Rattle.version_notes.specs.Reader.{at_first}
use Rattle.version_notes.specs.Reading.{notes_from}
use Rattle.version_notes.specs.declared.parts.Parts.{Parts}
use Rattle.noted_file.specs.Contents.{Contents, header_of}
use Rattle.noted_file.specs.Full.{FullAs}
use Rattle.xarch_words.specs.Commands as command
use Rattle.xarch_words.specs.Refusal.{archive, versions, Refusal, no_file, exists, damaged, limit, spec_differs, PlainFault, refused}
use Rattle.xarch_parts.specs.Allowed.{MayEnd}
use Rattle.xarch_parts.specs.AllowedLaws.{MayEnd-did, MayEnd-stopped, commit-tells}
use Rattle.xarch_parts.specs.Archives.{ArchiveIs, GoesOn, Stores, free_in}
use Rattle.xarch_parts.specs.CoreLaws.{front-sound}
use Rattle.xarch_parts.specs.EndLaws.{and_then-Ok}
use Rattle.xarch_parts.specs.Inputs as inputs
use Rattle.xarch_parts.specs.Inputs.{file_length, read_in}
use Rattle.xarch_parts.specs.Outcome.{Outcome, and_then, or_refuse}
use Rattle.xarch_parts.specs.Readings.{core_in, front_in, front_of_core, parts_of}
use Rattle.xarch_parts.specs.declared.front.Front.{Front}
use Rattle.xarch_meanings.specs.Join.{are_joinable, join_checked, join_input, joined, JoinsFrom, MayJoin, room_for, same_keys}
use Rattle.xarch_meanings.specs.Meanings.{MayBe}
use Rattle.xarch_copies.specs.Cutting.{IsUnsound}
use Rattle.xarch_copies.specs.Joining.{AreFound, BothNotesEnd, Comes, JoinEnds, RecordsEnd, fronts_in, fronts_read}
use Rattle.xarch_copies.specs.Making.{StandsBefore}
use Rattle.xarch_copies.specs.declared.join.Both.{Both}
use Rattle.xarch_copies.proofs.Checking.{IsSeen, checked-given, checked-once, checked-refused, drafted, length-there, seen}
use Rattle.record_parts.specs.declared.limits.TheConstants.{MOST_VERSIONS}

-- ---- what is refused as damaged

-- the same refusal of a step
refused-as : {A : Type 0} (q r : Refusal) → q ≡ r → ◌≡◌ {A = Result A Refusal} (Err q) (Err r)
refused-as q r same = ap (λ s. Err s) same

undamaged-then : {A B : Type 0} (x : Result A Refusal) (y : Result B Refusal) (m : List ℕ) → (x ≡ Err (damaged m) → ⊥) → and_then x (λ _. y) ≡ Err (damaged m) → y ≡ Err (damaged m)
undamaged-then (Ok a) y m none e = e
undamaged-then (Err q) y m none e = (let same : q ≡ damaged m = cc in absurd (none (refused-as q (damaged m) same)))

damaged-either : {A B C : Type 0} (x : Result A Refusal) (y : Result B Refusal) (f : A → B → Result C Refusal) (m : List ℕ) → ((a : A) (b : B) → f a b ≡ Err (damaged m) → ⊥) → and_then x (λ a. and_then y (λ b. f a b)) ≡ Err (damaged m) → (x ≡ Err (damaged m)) ⊎ (y ≡ Err (damaged m))
damaged-either (Ok a) (Ok b) f m none e = absurd (none a b e)
damaged-either (Ok a) (Err q) f m none e = (let same : q ≡ damaged m = cc in inr (refused-as q (damaged m) same))
damaged-either (Err q) y f m none e = (let same : q ≡ damaged m = cc in inl (refused-as q (damaged m) same))

length-undamaged : (o : Option (List ℕ)) (name m : List ℕ) → and_then (or_refuse o (no_file name)) (λ bytes. Ok (length bytes)) ≡ Err (damaged m) → ⊥
length-undamaged (Some b) name m e = absurd cc
length-undamaged None name m e = absurd cc

free-taken : (files : Files) (new b : List ℕ) → map.get files new ≡ Some b → free_in files new ≡ Err (exists new)
free-taken files new b e = rw e refl

free-none : (files : Files) (new : List ℕ) → map.get files new ≡ None → free_in files new ≡ Ok tt
free-none files new e = rw e refl

free-undamaged : (files : Files) (new m : List ℕ) → free_in files new ≡ Err (damaged m) → ⊥
free-undamaged files new m e =
    elim (map.get files new) as (λ (o : Option (List ℕ)). map.get files new ≡ o → ⊥) [
      | None ↦ λ is. (let wrong : ◌≡◌ {A = Result Unit Refusal} (Ok tt) (Err (damaged m)) = sym (free-none files new is) ∙ e in absurd cc)
      | Some b ↦ λ is. (let wrong : ◌≡◌ {A = Result Unit Refusal} (Err (exists new)) (Err (damaged m)) = sym (free-taken files new b is) ∙ e in absurd cc)
    ] refl

keys-undamaged : (b : Bool) (one two m : List ℕ) → ◌≡◌ {A = Result Unit Refusal} (if b then Ok tt else Err (spec_differs one two)) (Err (damaged m)) → ⊥
keys-undamaged true one two m e = absurd cc
keys-undamaged false one two m e = absurd cc

room-undamaged : (b : Bool) (m : List ℕ) → ◌≡◌ {A = Result Unit Refusal} (if b then Ok tt else Err (limit versions MOST_VERSIONS)) (Err (damaged m)) → ⊥
room-undamaged true m e = absurd cc
room-undamaged false m e = absurd cc

both-undamaged : {A : Type 0} (x y : Result Unit Refusal) (a : A) (m : List ℕ) → (x ≡ Err (damaged m) → ⊥) → (y ≡ Err (damaged m) → ⊥) → and_then (and_then x (λ _. y)) (λ _. Ok a) ≡ Err (damaged m) → ⊥
both-undamaged (Ok u) (Ok v) a m first second e = absurd cc
both-undamaged (Ok u) (Err q) a m first second e = (let same : q ≡ damaged m = cc in second (refused-as q (damaged m) same))
both-undamaged (Err q) y a m first second e = (let same : q ≡ damaged m = cc in first (refused-as q (damaged m) same))

-- both headers, where they go together
abbrev together : List ℕ → List ℕ → List PlainRule × ℕ → List PlainRule × ℕ → Result ((List PlainRule × ℕ) × (List PlainRule × ℕ)) Refusal
together one two h g = and_then (are_joinable one two h g) (λ _. Ok (h, g))

-- those that do not are not damaged by that
joinable-undamaged : (one two m : List ℕ) (h g : List PlainRule × ℕ) → together one two h g ≡ Err (damaged m) → ⊥
joinable-undamaged one two m h g =
    let p : (List PlainRule × ℕ) × (List PlainRule × ℕ) = (h, g) in
    both-undamaged (same_keys one two h.0 g.0) (room_for h.1 g.1) p m (keys-undamaged (bytes_eq (canonical h.0) (canonical g.0)) one two m) (room-undamaged (nat_le (h.1 + g.1) MOST_VERSIONS) m)

-- ---- of which archive that is said

names-then : {A B : Type 0} (x : Result A Refusal) (f : A → Result B Refusal) (n m : List ℕ) → (x ≡ Err (damaged m) → m ≡ n) → ((a : A) → f a ≡ Err (damaged m) → m ≡ n) → and_then x f ≡ Err (damaged m) → m ≡ n
names-then (Ok a) f n m first last e = last a e
names-then (Err q) f n m first last e = (let same : q ≡ damaged m = cc in first (refused-as q (damaged m) same))

refuse-names : {A : Type 0} (o : Option A) (n m : List ℕ) → or_refuse o (damaged n) ≡ Err (damaged m) → m ≡ n
refuse-names (Some x) n m e = absurd cc
refuse-names None n m e = (let same : n ≡ m = cc in sym same)

absent-names : (o : Option (List ℕ)) (n m : List ℕ) → or_refuse o (no_file n) ≡ Err (damaged m) → m ≡ n
absent-names (Some x) n m e = absurd cc
absent-names None n m e = absurd cc

cut-names : (core : List ℕ) (n m : List ℕ) → ◌≡◌ {A = Result (List ℕ) Refusal} (Ok core) (Err (damaged m)) → m ≡ n
cut-names core n m e = absurd cc

-- damage in front of an archive is of that archive
front-names : (files : Files) (n m : List ℕ) → read_in files n (front_in n) ≡ Err (damaged m) → m ≡ n
front-names files n m =
    names-then (inputs.file_of files n) (front_in n) n m (absent-names (map.get files n) n m) (λ bytes.
    names-then (core_in n bytes) (front_of_core n) n m
    (names-then (parts_of n bytes) (λ parts. Ok (take parts.core bytes)) n m (refuse-names (parts_in bytes) n m) (λ parts. cut-names (take parts.core bytes) n m))
    (λ core. refuse-names (header core) n m))

named : (n m : List ℕ) → ◌≡◌ {A = Result Outcome Refusal} (Err (damaged n)) (Err (damaged m)) → n ≡ m
named n m e = cc

same-refusal : (q r : Refusal) → ◌≡◌ {A = Result Outcome Refusal} (Err q) (Err r) → q ≡ r
same-refusal q r e = cc

not-refused : (o : Outcome) (r : Refusal) → ◌≡◌ {A = Result Outcome Refusal} (Ok o) (Err r) → ⊥
not-refused o r e = absurd cc

not-damaged : (m : List ℕ) → ◌≡◌ {A = Result Outcome Refusal} (Err (limit archive LONGEST)) (Err (damaged m)) → ⊥
not-damaged m e = absurd cc

-- From what is known of all archive files with notes: where their parts stand, and the header in front.
module _ (has_parts : (c : Contents) (bytes : List ℕ) (full : FullAs c bytes) → parts_in bytes ≡ Some (parts_behind full.core c.notes))
    (headed : (rules : List PlainRule) (vs : List PlainKeyed) (bytes : List ℕ) → closed (canonical rules) ≡ Ok rules → FileOf rules vs bytes → header bytes ≡ Some (rules, length vs))
    (files : Files) where
  -- a sound archive is not damaged in front
  front-whole : (name m : List ℕ) (c : Contents) → ArchiveIs files name c → read_in files name (front_in name) ≡ Err (damaged m) → ⊥
  front-whole name m c a e =
      let wrong : ◌≡◌ {A = Result (List PlainRule × ℕ) Refusal} (Ok (c.rules, length c.versions)) (Err (damaged m)) = sym (front-sound has_parts files name c a headed) ∙ e in
      absurd cc

  module _ (one two new : List ℕ) where
    -- over sound archives their rules and the numbers of their versions are read
    input-sound : (c d : Contents) → ArchiveIs files one c → ArchiveIs files two d
        → join_input files one two new ≡ and_then (join_checked files one two new (header_of c) (header_of d)) (λ _. Ok (header_of c, header_of d))
    input-sound c d a b =
        let h : List PlainRule × ℕ = (c.rules, length c.versions) in
        let g : List PlainRule × ℕ = (d.rules, length d.versions) in
        let first = front-sound has_parts files one c a headed in
        let second = front-sound has_parts files two d b headed in
        and_then-Ok (file_length files one) (λ _. and_then (file_length files two) (λ _. and_then (free_in files new) (λ _. fronts_in files one two))) (length a.bytes) _ (length-there files one a.bytes a.there)
        (and_then-Ok (file_length files two) (λ _. and_then (free_in files new) (λ _. fronts_in files one two)) (length b.bytes) _ (length-there files two b.bytes b.there)
        (ap (λ (x : Result (List PlainRule × ℕ) Refusal). and_then (free_in files new) (λ _. and_then x (λ h. and_then (read_in files two (front_in two)) (together one two h)))) first
        ∙ ap (λ (x : Result (List PlainRule × ℕ) Refusal). and_then (free_in files new) (λ _. and_then x (together one two h))) second
        ∙ checked-once (free_in files new) (are_joinable one two h g) (Ok (h, g))))

    -- damage that is met first is of a header
    damaged-front : (m : List ℕ) → join_input files one two new ≡ Err (damaged m) → (read_in files one (front_in one) ≡ Err (damaged m)) ⊎ (read_in files two (front_in two) ≡ Err (damaged m))
    damaged-front m e =
        damaged-either (read_in files one (front_in one)) (read_in files two (front_in two)) (together one two) m (joinable-undamaged one two m)
        (undamaged-then (free_in files new) (fronts_in files one two) m (free-undamaged files new m)
        (undamaged-then (file_length files two) (and_then (free_in files new) (λ _. fronts_in files one two)) m (length-undamaged (map.get files two) two m)
        (undamaged-then (file_length files one) (and_then (file_length files two) (λ _. and_then (free_in files new) (λ _. fronts_in files one two))) m (length-undamaged (map.get files one) one m) e)))

    -- and of no sound archive
    first-whole : (c : Contents) → ArchiveIs files one c → join_input files one two new ≡ Err (damaged one) → ⊥
    first-whole c a e =
        elim (damaged-front one e) [
          | inl at ↦ front-whole one one c a at
          | inr at ↦ front-whole one one c a (subst (λ (n : List ℕ). read_in files n (front_in n) ≡ Err (damaged one)) (sym (front-names files two one at)) at)
        ]

    second-whole : (c : Contents) → ArchiveIs files two c → join_input files one two new ≡ Err (damaged two) → ⊥
    second-whole c a e =
        elim (damaged-front two e) [
          | inl at ↦ front-whole two two c a (subst (λ (n : List ℕ). read_in files n (front_in n) ≡ Err (damaged two)) (sym (front-names files one two at)) at)
          | inr at ↦ front-whole two two c a at
        ]

    -- a refusal before the records are looked at
    pub may-refuse : (q : Refusal) → join_input files one two new ≡ Err q → MayBe files (command.join one two new) (Err q)
    may-refuse q e = record {
      whatever = subst (λ x. GoesOn x (λ _. MayJoin files one two new) (Err q)) (sym e) refl;
      first = λ c a w. first-whole c a (e ∙ refused-as q (damaged one) (same-refusal q (damaged one) w));
      second = λ c a w. second-whole c a (e ∙ refused-as q (damaged two) (same-refusal q (damaged two) w));
      sound = λ c d a b.
          let none = checked-refused (join_checked files one two new (header_of c) (header_of d)) (header_of c, header_of d) q (sym (input-sound c d a b) ∙ e) in
          subst (λ x. GoesOn x (λ _. Stores files new (joined c d)) (Err q)) (sym none) refl;
    }

    module _ (h : (List PlainRule × ℕ) × (List PlainRule × ℕ)) (read : join_input files one two new ≡ Ok h) where
      checked : (c d : Contents) → ArchiveIs files one c → ArchiveIs files two d → join_checked files one two new (header_of c) (header_of d) ≡ Ok tt
      checked c d a b = checked-given (join_checked files one two new (header_of c) (header_of d)) (header_of c, header_of d) h (sym (input-sound c d a b) ∙ read)

      -- what comes of the rest
      goes-on : (c d : Contents) (r : Result Outcome Refusal) → ArchiveIs files one c → ArchiveIs files two d → Stores files new (joined c d) r
          → JoinsFrom files one two new c d r
      goes-on c d r a b s = subst (λ x. GoesOn x (λ _. Stores files new (joined c d)) r) (sym (checked c d a b)) s

      -- the new file comes
      may-come : (bytes : List ℕ) → ((c d : Contents) → ArchiveIs files one c → ArchiveIs files two d → FullAs (joined c d) bytes)
          → MayBe files (command.join one two new) (Ok (record { files = map.insert files new bytes; output = [] }))
      may-come bytes full =
          let o : Outcome = record { files = map.insert files new bytes; output = [] } in
          record {
            whatever = subst (λ x. GoesOn x (λ _. MayJoin files one two new) (Ok o)) (sym read) (inr (inr (inr (record { bytes = bytes; is = refl }))));
            first = λ c a w. not-refused o (damaged one) w;
            second = λ c a w. not-refused o (damaged two) w;
            sound = λ c d a b. goes-on c d (Ok o) a b (inl (record { bytes = bytes; full = full c d a b; is = refl }));
          }

      first-damaged : ((c : Contents) → ¬ ArchiveIs files one c) → MayBe files (command.join one two new) (Err (damaged one))
      first-damaged none = record {
        whatever = subst (λ x. GoesOn x (λ _. MayJoin files one two new) (Err (damaged one))) (sym read) (inl refl);
        first = λ c a w. none c a;
        second = λ c a w. none c (subst (λ (n : List ℕ). ArchiveIs files n c) (sym (named one two w)) a);
        sound = λ c d a b. absurd (none c a);
      }

      second-damaged : ((c : Contents) → ¬ ArchiveIs files two c) → MayBe files (command.join one two new) (Err (damaged two))
      second-damaged none = record {
        whatever = subst (λ x. GoesOn x (λ _. MayJoin files one two new) (Err (damaged two))) (sym read) (inr (inl refl));
        first = λ c a w. none c (subst (λ (n : List ℕ). ArchiveIs files n c) (sym (named two one w)) a);
        second = λ c a w. none c a;
        sound = λ c d a b. absurd (none d b);
      }

      may-be-long : ((c d : Contents) → ArchiveIs files one c → ArchiveIs files two d → (bytes : List ℕ) → ¬ FileOf c.rules (c.versions ++ d.versions) bytes)
          → MayBe files (command.join one two new) (Err (limit archive LONGEST))
      may-be-long none =
          let r : Result Outcome Refusal = Err (limit archive LONGEST) in
          record {
            whatever = subst (λ x. GoesOn x (λ _. MayJoin files one two new) r) (sym read) (inr (inr (inl refl)));
            first = λ c a w. not-damaged one w;
            second = λ c a w. not-damaged two w;
            sound = λ c d a b. goes-on c d r a b (inr (record { none = none c d a b; is = refl }));
          }

    -- ---- by what stands in front of both

    -- And of how their notes are read.
    module _ (come : (c : Contents) (bytes name : List ℕ) (parts : Parts) → FullAs c bytes → parts_in bytes ≡ Some parts → notes_from (at_first name parts (length c.versions)) bytes ≡ Some c.notes)
        (told : Option Files) (tells : told ≡ Some files) (both : Both) (found : AreFound one two told both) (read : join_input files one two new ≡ Ok (fronts_read both)) where
      abbrev core-of : (name : List ℕ) (front : Front) → StandsBefore told name front → List ℕ
      core-of name front s = (s.stands files tells).core

      first-seen : (c : Contents) → ArchiveIs files one c → IsSeen told files one both.one c (core-of one both.one found.first)
      first-seen c a = seen has_parts headed come files one told tells both.one (found.first.are files tells) (found.first.stands files tells) c a

      second-seen : (c : Contents) → ArchiveIs files two c → IsSeen told files two both.two c (core-of two both.two found.second)
      second-seen c a = seen has_parts headed come files two told tells both.two (found.second.are files tells) (found.second.stands files tells) c a

      first-archive : (c : Contents) → ArchiveIs files one c → IsArchive told one (header_view both.one.header) c.rules c.versions
      first-archive c a = (let s = first-seen c a in record { bytes = core-of one both.one found.first; tells = s.at; header = s.heads; sound = s.sound })

      module _ (held d : Contents) (a : ArchiveIs files one held) (b : ArchiveIs files two d) where
        -- both have the same rules
        second-archive : IsArchive told two (header_view both.two.header) held.rules d.versions
        second-archive =
            let s = first-seen held a in
            let t = second-seen d b in
            let same : d.rules ≡ held.rules = sym t.same_rules ∙ sym found.together.rules ∙ s.same_rules in
            subst (λ (rs : List PlainRule). IsArchive told two (header_view both.two.header) rs d.versions) same (record { bytes = core-of two both.two found.second; tells = t.at; header = t.heads; sound = t.sound })

        full-joined : (draft : Option (List ℕ)) (now : Option Files) (c : Comes told draft one two new both now) → FullAs (joined held d) (c.core ++ notes_part c.notes)
        full-joined draft now c =
            let s = first-seen held a in
            let t = second-seen d b in
            let gives = c.given files tells in
            let here : c.first ≡ held.notes = some_is c.first held.notes (sym gives.0 ∙ s.read) in
            let there : c.second ≡ d.notes = some_is c.second d.notes (sym gives.1 ∙ t.read) in
            let these : c.notes ≡ held.notes ++ d.notes = c.are ∙ (λ i. here i ++ there i) in
            let many = c.many in
            let first = s.versions in
            let second = t.versions in
            subst (λ (l : List (List ℕ)). FullAs (record { rules = held.rules; versions = held.versions ++ d.versions; notes = l }) (c.core ++ notes_part c.notes)) these
            (record { core = c.core; is = c.joined held.rules held.versions d.versions (first-archive held a) second-archive; as_many = omega (arith, many, first, second, length-append held.versions d.versions); each = c.each; spelled = refl })

      unsound-first : IsUnsound told one (header_view both.one.header) → (c : Contents) → ¬ ArchiveIs files one c
      unsound-first none c a = (let s = first-seen c a in none (core-of one both.one found.first) c.rules c.versions s.at s.heads s.sound)

      unsound-second : IsUnsound told two (header_view both.two.header) → (c : Contents) → ¬ ArchiveIs files two c
      unsound-second none c a = (let s = second-seen c a in none (core-of two both.two found.second) c.rules c.versions s.at s.heads s.sound)

      records-may : (q : Refusal) → RecordsEnd told one (header_view both.one.header) two (header_view both.two.header) (refused q) → MayBe files (command.join one two new) (Err q)
      records-may q (inl d) = subst (λ s. MayBe files (command.join one two new) (Err s)) (sym d.0) (first-damaged (fronts_read both) read (unsound-first d.1))
      records-may q (inr (inl d)) = subst (λ s. MayBe files (command.join one two new) (Err s)) (sym d.0) (second-damaged (fronts_read both) read (unsound-second d.1))
      records-may q (inr (inr l)) =
          subst (λ s. MayBe files (command.join one two new) (Err s)) (sym l.0)
          (may-be-long (fronts_read both) read (λ c d a b. l.1 c.rules c.versions d.versions (first-archive c a) (second-archive c d a b)))

      notes-may : (q : Refusal) → BothNotesEnd told one both.one two both.two (refused q) → MayBe files (command.join one two new) (Err q)
      notes-may q (inl d) =
          subst (λ s. MayBe files (command.join one two new) (Err s)) (sym d.0)
          (first-damaged (fronts_read both) read (λ c a. (let wrong : None ≡ Some c.notes = sym (d.1 files tells) ∙ (first-seen c a).read in absurd cc)))
      notes-may q (inr d) =
          subst (λ s. MayBe files (command.join one two new) (Err s)) (sym d.0)
          (second-damaged (fronts_read both) read (λ c a. (let wrong : None ≡ Some c.notes = sym (d.1 files tells) ∙ (second-seen c a).read in absurd cc)))

      refused-may : (v : PlainFault) → RecordsEnd told one (header_view both.one.header) two (header_view both.two.header) v → (q : Refusal) → v ≡ refused q → MayBe files (command.join one two new) (Err q)
      refused-may v ends q is = records-may q (subst (λ (z : PlainFault). RecordsEnd told one (header_view both.one.header) two (header_view both.two.header) z) is ends)

      unnoted-may : (v : PlainFault) → BothNotesEnd told one both.one two both.two v → (q : Refusal) → v ≡ refused q → MayBe files (command.join one two new) (Err q)
      unnoted-may v ends q is = notes-may q (subst (λ (z : PlainFault). BothNotesEnd told one both.one two both.two z) is ends)

      -- with what the new archive ends, the command may end
      pub may-end : (draft : Option (List ℕ)) (after : Option Files) (t : Taken) (ended : Option PlainFault) → JoinEnds told draft one two new both after ended → MayEnd (MayBe files (command.join one two new)) ended after t t
      may-end draft after t None c =
          let bytes = c.core ++ notes_part c.notes in
          let stored = commit-tells (Ok tt) files after told (option_map (λ (d : List ℕ). bytes) draft) new bytes c.stored tells (drafted draft bytes) in
          MayEnd-did (MayBe files (command.join one two new)) (record { files = map.insert files new bytes; output = [] }) after t t
          (may-come (fronts_read both) read bytes (λ held d a b. full-joined held d a b draft after c)) stored (Takes-nil t)
      may-end draft after t (Some v) (inl ends) = MayEnd-stopped (MayBe files (command.join one two new)) v after t (refused-may v ends)
      may-end draft after t (Some v) (inr ends) = MayEnd-stopped (MayBe files (command.join one two new)) v after t (unnoted-may v ends)
