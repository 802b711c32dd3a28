-- The bytes of a file before its notes.
use Rattle.std.proofs.Common.{◌≡◌, ℕ, ◌≤◌, Bool, true, false, nat_le, List, length, take, Option, Some, None, Result, Ok, Err, if◌then◌else◌, refl, sym, ap, ◌∙◌, subst, arith, length-take}
use Rattle.std.proofs.lemmas.Bool.{le-leb}
use Rattle.std.proofs.Math.Seq.{take-append_seam}
use Rattle.std.specs.FinMap as map
use Rattle.xa_outside.specs.Folder.{Files, bytes_or_none, front, front_of}
use Rattle.xa_fields.specs.Reading.{◌>>=◌}
use Rattle.key_spec.specs.Canonical.{canonical}
use Rattle.key_spec.specs.Closed.{closed}
use Rattle.key_spec.specs.Data.{PlainRule}
use Rattle.keyed_tree.specs.Data.{PlainKeyed}
use Rattle.record_cursor.specs.Moves.{TellsFront}
use Rattle.archive_file.specs.Sound.{SoundAs}
use Rattle.record_format.specs.Files.{FileOf}
use Rattle.record_format.specs.Fronts.{header}
use Rattle.version_notes.specs.Notes.{notes_part}
use Rattle.version_notes.specs.Parts.{is_marked, no_notes, notes_size, parts_behind, parts_in, with_notes}
use Rattle.version_notes.specs.declared.parts.Parts.{Parts}
use Rattle.noted_file.specs.Contents.{Contents}
use Rattle.noted_file.specs.Full.{FullAs}
use Rattle.xarch_words.specs.Refusal.{Refusal, no_file, damaged}
use Rattle.xarch_parts.specs.Archives.{ArchiveIs, CoreIs, PartsAre}
use Rattle.xarch_parts.specs.Inputs.{file_of, read_in}
use Rattle.xarch_parts.specs.Noted.{AreWithin}
use Rattle.xarch_parts.specs.Outcome.{and_then, or_refuse}
use Rattle.xarch_parts.specs.Readings.{core_in, front_in, front_of_core, parts_of}

sized : (n : ℕ) (size : Option ℕ) (parts : Parts) → (size >>= λ k. Some (with_notes n k)) ≡ Some parts → parts.core ≤ n
sized n (Some k) parts e = let is : with_notes n k ≡ parts = cc in subst (λ (p : Parts). p.core ≤ n) is (omega arith)
sized n None parts e = absurd cc

by_mark : (b : Bool) (n : ℕ) (size : Option ℕ) (parts : Parts) → (if b then (size >>= λ k. Some (with_notes n k)) else Some (no_notes n)) ≡ Some parts → parts.core ≤ n
by_mark true n size parts e = sized n size parts e
by_mark false n size parts e = let is : no_notes n ≡ parts = cc in subst (λ (p : Parts). p.core ≤ n) is (omega arith)

-- what stands before the notes is a part of the file
pub core-within : (bytes : List ℕ) (parts : Parts) → parts_in bytes ≡ Some parts → parts.core ≤ length bytes
core-within bytes parts e = by_mark (is_marked bytes) (length bytes) (notes_size bytes) parts e

front-take : (n : ℕ) (bytes : List ℕ) → n ≤ length bytes → front n bytes ≡ Some (take n bytes)
front-take n bytes fits = let is : nat_le n (length bytes) ≡ true = le-leb n (length bytes) fits in rw is refl

-- as a call sees it that is told its size
pub core-front : (files : Files) (name : List ℕ) (size : ℕ) (core : List ℕ) → CoreIs files name size core → front_of files name size ≡ Some core
core-front files name size core c =
    let within : size ≤ length c.bytes = subst (λ n. n ≤ length c.bytes) c.long (core-within c.bytes c.parts c.are) in
    ap (λ o. front size (bytes_or_none o)) c.there ∙ front-take size c.bytes within ∙ ap (λ b. Some b) (sym c.is)

pub core-told : (files : Files) (told : Option Files) (name : List ℕ) (size : ℕ) (core : List ℕ) → told ≡ Some files → CoreIs files name size core → TellsFront told name size core
core-told files told name size core tells c = (files, tells, core-front files name size core c)

pub core-length : (files : Files) (name : List ℕ) (size : ℕ) (core : List ℕ) → CoreIs files name size core → length core ≡ size
core-length files name size core c =
    let within : size ≤ length c.bytes = subst (λ n. n ≤ length c.bytes) c.long (core-within c.bytes c.parts c.are) in
    ap length c.is ∙ length-take size c.bytes ∙ omega (arith, within)

-- a file of this name has these bytes alone
pub same-file : (files : Files) (name a b : List ℕ) → map.get files name ≡ Some a → map.get files name ≡ Some b → a ≡ b
same-file files name a b p q = let both : Some a ≡ Some b = sym p ∙ q in cc

same-parts : (a b : List ℕ) (p q : Parts) → a ≡ b → parts_in a ≡ Some p → parts_in b ≡ Some q → p ≡ q
same-parts a b p q same x y = let both : Some p ≡ Some q = sym x ∙ ap parts_in same ∙ y in cc

-- and it has the one core
pub one-core : (files : Files) (name : List ℕ) (n m : ℕ) (a b : List ℕ) → CoreIs files name n a → CoreIs files name m b → (n ≡ m) × (a ≡ b)
one-core files name n m a b p q =
    let same = same-file files name p.bytes q.bytes p.there q.there in
    let parts = same-parts p.bytes q.bytes p.parts q.parts same p.are q.are in
    let long : n ≡ m = sym p.long ∙ ap (λ (x : Parts). x.core) parts ∙ q.long in
    (long, p.is ∙ ap (λ z. take n z) same ∙ ap (λ k. take k q.bytes) long ∙ sym q.is)

-- parts say where the core is
pub of-parts : (files : Files) (name : List ℕ) (parts : Parts) (p : PartsAre files name parts) → CoreIs files name parts.core (take parts.core p.bytes)
of-parts files name parts p = record { bytes = p.bytes; there = p.there; parts = parts; are = p.are; long = refl; is = refl }

-- ---- what commands read first

pub parts-read : (files : Files) (name bytes : List ℕ) (parts : Parts) → map.get files name ≡ Some bytes → parts_in bytes ≡ Some parts → read_in files name (parts_of name) ≡ Ok parts
parts-read files name bytes parts there are = ap (λ o. and_then (or_refuse o (no_file name)) (parts_of name)) there ∙ ap (λ (o : Option Parts). or_refuse o (damaged name)) are

cut : (files : Files) (name : List ℕ) (size : ℕ) (core : List ℕ) (c : CoreIs files name size core) → core_in name c.bytes ≡ Ok core
cut files name size core c =
    ap (λ (o : Option Parts). and_then (or_refuse o (damaged name)) (λ parts. Ok (take parts.core c.bytes))) c.are
    ∙ ap (λ k. Ok (take k c.bytes)) c.long
    ∙ ap (λ (b : List ℕ). Ok b) (sym c.is)

pub core-read : (files : Files) (name : List ℕ) (size : ℕ) (core : List ℕ) → CoreIs files name size core → read_in files name (core_in name) ≡ Ok core
core-read files name size core c = ap (λ o. and_then (or_refuse o (no_file name)) (core_in name)) c.there ∙ cut files name size core c

pub front-read : (files : Files) (name : List ℕ) (size : ℕ) (core : List ℕ) → CoreIs files name size core → read_in files name (front_in name) ≡ front_of_core name core
front-read files name size core c = ap (λ o. and_then (or_refuse o (no_file name)) (front_in name)) c.there ∙ ap (λ x. and_then x (front_of_core name)) (cut files name size core c)

core-after : (b : Result (List ℕ) Refusal) (name : List ℕ) (q : Refusal) → and_then b (parts_of name) ≡ Err q → and_then b (core_in name) ≡ Err q
core-after (Ok bytes) name q e = ap (λ x. and_then x (λ parts. Ok (take parts.core bytes))) e
core-after (Err r) name q e = let same : r ≡ q = cc in ap (λ (z : Refusal). Err z) same

-- where there are no parts there is no core
pub no-core : (files : Files) (name : List ℕ) (q : Refusal) → read_in files name (parts_of name) ≡ Err q → read_in files name (core_in name) ≡ Err q
no-core files name q e = core-after (file_of files name) name q e

front-after : (b : Result (List ℕ) Refusal) (name : List ℕ) (q : Refusal) → and_then b (parts_of name) ≡ Err q → and_then b (front_in name) ≡ Err q
front-after (Ok bytes) name q e = ap (λ x. and_then (and_then x (λ parts. Ok (take parts.core bytes))) (front_of_core name)) e
front-after (Err r) name q e = let same : r ≡ q = cc in ap (λ (z : Refusal). Err z) same

-- nor a header
pub no-front : (files : Files) (name : List ℕ) (q : Refusal) → read_in files name (parts_of name) ≡ Err q → read_in files name (front_in name) ≡ Err q
no-front files name q e = front-after (file_of files name) name q e

-- ---- archives

-- From what is known of all archives with notes: where their parts stand.
module _ (has_parts : (c : Contents) (bytes : List ℕ) (full : FullAs c bytes) → parts_in bytes ≡ Some (parts_behind full.core c.notes))
    (files : Files) (name : List ℕ) (held : Contents) (a : ArchiveIs files name held) where
  -- the sound archive before the notes
  pub core-of : CoreIs files name (length a.full.core) a.full.core
  core-of = record {
    bytes = a.bytes;
    there = a.there;
    parts = parts_behind a.full.core held.notes;
    are = has_parts held a.bytes a.full;
    long = refl;
    is = sym (ap (take (length a.full.core)) a.full.spelled ∙ take-append_seam a.full.core (notes_part held.notes));
  }

  -- any other is the same
  pub core-same : (size : ℕ) (core : List ℕ) → CoreIs files name size core → (size ≡ length a.full.core) × (core ≡ a.full.core)
  core-same size core c = one-core files name size (length a.full.core) core a.full.core c core-of

  pub core-sound : (size : ℕ) (core : List ℕ) → CoreIs files name size core → SoundAs held.rules held.versions core
  core-sound size core c = subst (λ (z : List ℕ). SoundAs held.rules held.versions z) (sym (core-same size core c).1) a.full.is

  -- the header that stands in front, from what is known of all archive files
  pub front-sound : ((rules : List PlainRule) (vs : List PlainKeyed) (bytes : List ℕ) → closed (canonical rules) ≡ Ok rules → FileOf rules vs bytes → header bytes ≡ Some (rules, length vs))
      → read_in files name (front_in name) ≡ Ok (held.rules, length held.versions)
  front-sound fronted =
      front-read files name (length a.full.core) a.full.core core-of
      ∙ ap (λ o. or_refuse o (damaged name)) (fronted held.rules held.versions a.full.core a.full.is.specification a.full.is.file)

  -- it has parts
  pub no-parts : (q : Refusal) → read_in files name (parts_of name) ≡ Err q → ⊥
  no-parts q refuses = let wrong : ◌≡◌ {A = Result Parts Refusal} (Ok (parts_behind a.full.core held.notes)) (Err q) = sym (parts-read files name a.bytes (parts_behind a.full.core held.notes) a.there (has_parts held a.bytes a.full)) ∙ refuses in cc

-- parts of no more than fewer bytes
pub within-more : (n most : ℕ) (parts : Parts) → n ≤ most → AreWithin n parts → AreWithin most parts
within-more n most parts fits is = let all = is.within in record { within = omega (arith, fits, all); room = is.room }
