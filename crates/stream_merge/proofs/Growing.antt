-- The file of a sound archive with one more version.
use Rattle.std.proofs.Common.{◌≡◌, ℕ, ◌+◌, ◌-◌, ◌≤◌, ◌<◌, List, [], ◌∷◌, ◌++◌, length, drop, Option, Some, None, Ok, refl, sym, ap, subst, ◌∙◌, arith}
use Rattle.std.specs.Prelude.{max}
use Rattle.jsonml_text.specs.Texts.{AreTexts}
use Rattle.key_spec.specs.Canonical.{canonical}
use Rattle.key_spec.specs.Data.{PlainRule}
use Rattle.keyed_tree.specs.Data.{PlainKeyed}
use Rattle.keyed_tree.specs.Plain.{plain}
use Rattle.version_set.specs.Members.{upto_pairs}
use Rattle.xa_outside.specs.Folder.{Files}
use Rattle.xa_outside.specs.Numbers.{Numbers, IsMeter, lead}
use Rattle.xa_outside.specs.NumberLaws.{PullsAndDrafts-more, PullsAndDrafts-trans}
use Rattle.archive_tree.specs.Data.{PlainArchive}
use Rattle.archive_tree.specs.Stands.{ArchiveOf}
use Rattle.archive_tree.proofs.OneArchive.{one_archive}
use Rattle.record_format.specs.Files.{header_bytes, largest}
use Rattle.record_format.specs.Spelling.{dir_bytes}
use Rattle.record_format.specs.Nodes.{dir_of, node_pieces}
use Rattle.record_parts.specs.declared.limits.TheConstants.{MOST_VERSIONS}
use Rattle.archive_file.specs.KeyedBy.{IsKeyedBy}
use Rattle.archive_file.specs.Sound.{SoundAs}
use Rattle.record_cursor.specs.Items.{items_of}
use Rattle.record_cursor.specs.Moves.{TellsFront, Comes, IsHeaderOf}
use Rattle.record_cursor.specs.Places.{Standing, among_nodes, finished}
use Rattle.record_cursor.specs.Next.{Gives}
use Rattle.record_cursor.specs.View.{PlainHeader, PlainCursor}
use Rattle.record_cursor.proofs.Items.{file-gives}
use Rattle.record_writer.specs.Data.{PlainWriter, WriterCall}
use Rattle.record_writer.specs.Calls.{started, all_appended, AllFit}
use Rattle.record_writer.specs.Faults.{Appends}
use Rattle.record_writer.specs.View.{writer_view}
use Rattle.record_writer.specs.Walks.{walk_of}
use Rattle.record_writer.specs.declared.writer.Writer.{Writer}
use Rattle.stream_merge.specs.Appended.{Ends, WritesNodes, Grows, NoRoomBehind, NodesAppended, VersionAppended}
use Rattle.stream_merge.specs.Passes.{Unless}
use Rattle.stream_merge.specs.Room.{NoRoom, NoRoomIf}
use Rattle.stream_merge.specs.Short.{AreShortSets}
use Rattle.record_copy.specs.State.{State, state}
use Rattle.stream_merge.specs.View.{PlainInherited}
use Rattle.stream_merge.specs.declared.fault.MergeFault.{MergeFault}
use Rattle.stream_merge.specs.declared.fault.MergeFault.TheVariants.{Damage, Folder, TooLong, Memory}
use Rattle.stream_merge.proofs.Rooms.{set-plain, upto-within}
use Rattle.stream_merge.proofs.States.{cause-then, wrote-all}
use Rattle.stream_merge.proofs.Items.{all-within, finish-within, header-length}
use Rattle.archive_file.proofs.SoundLaws.{versions-nested}
use Rattle.stream_merge.proofs.Whole.{Heads, sound-heads, old-below, old-fits, grown, walk-spelled, grown-sound, grown-none}
use Rattle.record_cursor.proofs.NodeItems.{items-are}
use Rattle.record_copy.proofs.Passing.{lengthens-then}

-- what the virtual root hands on, where there are so many versions
abbrev pub root_inherited : ℕ → PlainInherited
root_inherited n = record { number = n + 1; before = upto_pairs n; now = upto_pairs (n + 1) }

root-short : (b n : ℕ) → 12 ≤ b → AreShortSets b (root_inherited n)
root-short b n room = record { before = upto-within b n room; now = set-plain b (n + 1) (upto_pairs (n + 1)) (upto-within b (n + 1) room) }

-- ---- where the file is told

module _ (h : PlainHeader) (rules : List PlainRule) (vs : List PlainKeyed) (bytes : List ℕ) (k : PlainKeyed) (is : IsHeaderOf h bytes) (s : SoundAs rules vs bytes) where
  abbrev old : PlainArchive
  old = s.file.archive

  heads : Heads h rules old
  heads = sound-heads h rules vs bytes s is

  -- the items that come at the first record
  comes-all : (told : Option Files) (c : PlainCursor) → TellsFront told c.name c.length bytes → c.standing ≡ among_nodes 0 → c.at ≡ h.first → Comes told c (items_of old)
  comes-all told c tells standing at =
      let place : c.at ≡ length (header_bytes rules old.n) = (let e = heads in at ∙ e.first) in
      let gives = file-gives rules old s.file.has (versions-nested rules vs bytes old s s.file.is) in
      record {
        bytes = bytes;
        tells = tells;
        standing = finished;
        rest = [];
        gives = subst (λ (p : Standing × List ℕ). Gives p.0 p.1 (items_of old) finished []) (λ i. (sym standing i, drop (sym place i) (sym s.file.spelled i))) gives;
      }

  module _ (keyed : IsKeyedBy h.rules k) (texts : AreTexts (plain k)) (room : h.versions < MOST_VERSIONS) where
    own : IsKeyedBy rules k
    own = (let e = heads in subst (λ (rs : List PlainRule). IsKeyedBy rs k) e.rules_are keyed)

    few : old.n < MOST_VERSIONS
    few = (let e = heads in let count = e.count in omega (arith, room, count))

    -- the calls that walk the archive with the version
    abbrev calls : List WriterCall
    calls = walk_of (grown rules vs bytes k s own texts)

    walks : (z : List ℕ) (p : PlainInherited) (x y : State) (e : Option MergeFault) → p ≡ root_inherited h.versions → WritesNodes z p k x y e → TellsFront x.files x.cursor.name x.cursor.length bytes → x.cursor.standing ≡ among_nodes 0 → x.cursor.at ≡ h.first
        → Ends z (largest rules old) calls x y e
    walks z p x y e from writes tells standing at =
        let count : h.versions ≡ old.n = (let e = heads in e.count) in
        let own_writes : WritesNodes z (root_inherited old.n) k x y e = subst (λ (q : PlainInherited). WritesNodes z q k x y e) (from ∙ ap root_inherited count) writes in
        own_writes (largest rules old) old.kids (length (dir_bytes (dir_of (node_pieces (upto_pairs old.n) old.kids)))) (all-within rules old) (finish-within rules old)
        (subst (Comes x.files x.cursor) (items-are old) (comes-all x.files x.cursor tells standing at)) (old-below rules vs bytes k s own texts) (old-fits rules vs bytes k s own texts)

    begun : (v : PlainWriter) → v ≡ started h.rules (h.versions + 1) → v ≡ started rules (old.n + 1)
    begun v e = (let d = heads in e ∙ (λ i. started (d.rules_are i) (d.count i + 1)))

    grows-by : (z : List ℕ) (x y : State) (e : Option MergeFault) → x.writer ≡ started h.rules (h.versions + 1) → Ends z (largest rules old) calls x y e → Grows (header_bytes h.rules (h.versions + 1) ++ z) rules vs k e
    grows-by z x y None at ends =
        let made = ends.made in
        let e = heads in
        let v = begun x.writer at in
        let file : header_bytes h.rules (h.versions + 1) ++ z ≡ _ = (λ i. header_bytes (e.rules_are i) (e.count i + 1) ++ (made.same ∙ ap (λ (u : PlainWriter). all_appended u calls) v) i) ∙ walk-spelled rules vs bytes k s own texts in
        subst (λ (f : List ℕ). SoundAs rules (vs ++ k ∷ []) f) (sym file) (grown-sound rules vs bytes k s own texts few (subst (λ (u : PlainWriter). AllFit u calls) v made.fit))
    grows-by z x y (Some TooLong) at ends = grown-none rules vs bytes k s own texts few (λ fit. ends.made (subst (λ (u : PlainWriter). AllFit u calls) (sym (begun x.writer at)) fit))
    grows-by z x y (Some Damage) at ends = ends.made
    grows-by z x y (Some Folder) at ends = tt
    grows-by z x y (Some Memory) at ends = tt

    gap-by : (z : List ℕ) (a : PlainArchive) (before : Numbers) (x y : State) (e : Option MergeFault) → ArchiveOf vs a → x.numbers.gap ≡ before.gap → lead x.numbers ≤ lead before - length (header_bytes h.rules (h.versions + 1))
        → Ends z (largest rules old) calls x y e → y.numbers.gap ≤ max before.gap (lead before - length (header_bytes rules a.n) + largest rules a)
    gap-by z a before x y e is_of same less ends =
        let d = heads in
        let one : old ≡ a = one_archive vs old a s.file.is is_of in
        let long : length (header_bytes h.rules (h.versions + 1)) ≡ length (header_bytes rules a.n) =
        header-length h.rules (h.versions + 1) ∙ ap (λ (rs : List PlainRule). 14 + length (canonical rs)) d.rules_are ∙ sym (header-length rules a.n) in
        let width = ap (largest rules) one in
        let g = ends.gap in
        omega (arith, g, same, less, long, width)

-- ---- whatever the file is

module _ {S : Type 0} (files : S → Option Files) (draft : S → Option (List ℕ)) (numbers : S → Numbers) (count : S → ℕ) (h : PlainHeader) (k : PlainKeyed) (old mid new : S) (c : PlainCursor) (w : Writer) (from : PlainInherited) where
  abbrev head : List ℕ
  head = header_bytes h.rules (h.versions + 1)

  -- a writer began, and then the nodes were appended
  pub version-then : {T : Type 0} (v : T) (e : Option MergeFault) → IsMeter (numbers old) → Appends files draft numbers count old mid head (Ok v) → writer_view w ≡ started h.rules (h.versions + 1) → from ≡ root_inherited h.versions
      → h.versions < MOST_VERSIONS → IsKeyedBy h.rules k → AreTexts (plain k) → c.length ≡ h.length → c.standing ≡ among_nodes 0 → c.at ≡ h.first → NodesAppended files draft numbers count from k mid new c w e → VersionAppended files draft numbers count h k old new c e
  version-then v e meter did begins root room keyed texts length_is standing at nodes =
      let gains = did.gains in
      let wrote = wrote-all (length head) (numbers old) (numbers mid) meter gains.numbers in
      let reads = nodes.reads in
      let first = did.later in
      let second = reads.later in
      let z = nodes.appended in
      let x : State = state files draft numbers count mid c w in
      let y : State = state files draft numbers count new c w in
      let most : c.length - c.at ≡ h.length - h.first = (λ i. length_is i - at i) in
      let few = ap (λ (n : ℕ). n) most in
      record {
        appended = head ++ z;
        reads = record {
          same_files = reads.same_files ∙ did.same_files;
          lengthens = lengthens-then (draft old) (draft mid) (draft new) head z gains.draft reads.lengthens;
          later = omega (arith, first, second);
          cause = cause-then (count old) (count mid) (count new) e first second reads.cause;
          pulls = PullsAndDrafts-more (0 + (c.length - c.at)) (h.length - h.first) (numbers old) (numbers new) (omega (arith, few)) (PullsAndDrafts-trans 0 (c.length - c.at) (numbers old) (numbers mid) (numbers new) wrote.counts reads.pulls);
          ahead = ahead-by e reads.ahead wrote.less;
        };
        no_room = λ b file tree. behind b e (nodes.no_room b (omega (arith, file, length_is)) (subst (λ (p : PlainInherited). AreShortSets b p) (sym root) (root-short b h.versions (omega (arith, file)))) tree);
        grows = λ bytes rules vs tells is sound. grows-by h rules vs bytes k is sound keyed texts room z x y e begins
            (walks h rules vs bytes k is sound keyed texts room z from x y e root nodes.nodes (told bytes did.same_files tells) standing at);
        gap = λ bytes rules vs a tells is sound of. gap-by h rules vs bytes k is sound keyed texts room z a (numbers old) x y e of wrote.same_gap wrote.less
            (walks h rules vs bytes k is sound keyed texts room z from x y e root nodes.nodes (told bytes did.same_files tells) standing at);
      }
    where
      behind : (b : ℕ) (e : Option MergeFault) → NoRoomIf b from.number nodes.appended (writer_view w) e → NoRoomBehind b h (head ++ nodes.appended) e
      behind b None r = tt
      behind b (Some TooLong) r = (nodes.appended, refl, subst (λ (v : PlainWriter). NoRoom b (h.versions + 1) nodes.appended v) begins (subst (λ (p : PlainInherited). NoRoom b p.number nodes.appended (writer_view w)) root r))
      behind b (Some Damage) r = tt
      behind b (Some Folder) r = tt
      behind b (Some Memory) r = tt

      told : (bytes : List ℕ) → files mid ≡ files old → TellsFront (files old) c.name c.length bytes → TellsFront (files mid) c.name c.length bytes
      told bytes same tells = subst (λ (o : Option Files). TellsFront o c.name c.length bytes) (sym same) tells

      ahead-by : (e : Option MergeFault) → Unless e (lead (numbers new) ≤ lead (numbers mid) - 0) → lead (numbers mid) ≤ lead (numbers old) - length head → Unless e (lead (numbers new) ≤ lead (numbers old) - length head)
      ahead-by None a l = omega (arith, a, l)
      ahead-by (Some f) a l = tt
