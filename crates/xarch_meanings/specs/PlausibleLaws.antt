-- What the steps of a command are, where no refusal comes late.
use Rattle.std.proofs.Common.{◌≡◌, inl, inr, ℕ, Bool, true, false, if◌then◌else◌, List, [], length, Option, Some, None, Result, Ok, Err, refl, sym, ap, ◌∙◌}
use Rattle.xa_outside.specs.Folder.{Files}
use Rattle.key_spec.specs.Data.{PlainRule}
use Rattle.content_log.specs.Frontier.{at_frontier}
use Rattle.content_log.specs.Text.{log_text}
use Rattle.key_rules.specs.UserPaths.{user_path}
use Rattle.keyed_tree.specs.Data.{PlainLabel, PlainKeyed}
use Rattle.archive_tree.specs.Stands.{version_of}
use Rattle.xarch_words.specs.Commands.{PlainCommand, get, log, versions}
use Rattle.xarch_words.specs.Refusal.{Refusal, bad_path, damaged, no_version, not_frontier}
use Rattle.keyed_print.specs.KeyedText.{keyed_text}
use Rattle.noted_file.specs.Contents.{Contents}
use Rattle.xarch_parts.specs.Archives.{ArchiveIs}
use Rattle.xarch_parts.specs.Outcome.{Outcome, Step, and_then, or_refuse, step_from}
use Rattle.xarch_parts.specs.Readings.{refused_as}
use Rattle.xarch_meanings.specs.History.{labels_of}
use Rattle.xarch_meanings.specs.Log.{ending_at_frontier, frontier_of}
use Rattle.xarch_meanings.specs.Versions.{versions_text}
use Rattle.xarch_meanings.specs.Meanings.{MayBe, MayComeLate}
use Rattle.xarch_meanings.specs.Plausible.{IsLate, MayStep, step_behind}

-- nothing was written before it
pub behind-none : (files : Files) (r : Result Outcome Refusal) → step_behind files [] r ≡ step_from files r
behind-none files (Ok o) = refl
behind-none files (Err q) = refl

-- a step with whose outcome no refusal comes late is the step of the outcome
pub plain-step : (files : Files) (c : Option PlainCommand) (s : Step) (m : MayStep files c s) → ¬ IsLate files c m.outcome → s ≡ step_from files m.outcome
plain-step files c s m early = elim m.behind [
  | inl none ↦ m.is ∙ ap (λ w. step_behind files w m.outcome) none ∙ behind-none files m.outcome
  | inr late ↦ absurd (early late)
]

no_text : (files : Files) (vs : List PlainKeyed) (i : ℕ) (name : List ℕ) (o : Option PlainKeyed)
    → ◌≡◌ {A = Result Outcome Refusal} (Err (damaged name)) (and_then (or_refuse o (no_version i (length vs))) (λ k. Ok (record { files = files; output = keyed_text k }))) → ⊥
no_text files vs i name None e = cc
no_text files vs i name (Some k) e = cc

-- a refusal never comes late over a sound archive
pub late-unsound : (files : Files) (name : List ℕ) (i : ℕ) (c : Contents) (r : Result Outcome Refusal) → ArchiveIs files name c → MayBe files (get name i) r
    → ¬ IsLate files (Some (get name i)) r
late-unsound files name i c (Ok o) a m late = late
late-unsound files name i c (Err q) a m late = no_text files c.versions i name (version_of c.versions i) (ap (λ s. Err s) (sym late.0) ∙ m.sound c a)

no_damage : (files : Files) (vs : List PlainKeyed) (name : List ℕ) (x : Result (List PlainLabel) Refusal) → ((q : Refusal) → x ≡ Err q → ¬ (q ≡ damaged name))
    → ◌≡◌ {A = Result Outcome Refusal} (Err (damaged name)) (and_then x (λ labels. Ok (record { files = files; output = log_text vs labels }))) → ⊥
no_damage files vs name (Ok labels) h e = cc
no_damage files vs name (Err q) h e = (let same : q ≡ damaged name = cc in h q refl same)

-- the labels of a path are refused as a bad path, or since they do not end at the frontier
undamaged-end : (b : Bool) (labels : List PlainLabel) (name : List ℕ) (q : Refusal) → ◌≡◌ {A = Result (List PlainLabel) Refusal} (if b then Ok labels else Err not_frontier) (Err q) → ¬ (q ≡ damaged name)
undamaged-end true labels name q e is = cc
undamaged-end false labels name q e is = cc

undamaged-path : (rules : List PlainRule) (name : List ℕ) (x : Result (List PlainLabel) ℕ) (q : Refusal) → and_then (refused_as bad_path x) (ending_at_frontier rules) ≡ Err q → ¬ (q ≡ damaged name)
undamaged-path rules name (Ok labels) q e is = undamaged-end (at_frontier rules labels) labels name q e is
undamaged-path rules name (Err step) q e is = cc

undamaged : (rules : List PlainRule) (path name : List ℕ) (q : Refusal) → frontier_of rules path ≡ Err q → ¬ (q ≡ damaged name)
unfolding frontier_of labels_of
undamaged rules path name q e is = undamaged-path rules name (user_path rules path) q e is

pub late-unlogged : (files : Files) (name path : List ℕ) (c : Contents) (r : Result Outcome Refusal) → ArchiveIs files name c → MayBe files (log name path) r
    → ¬ IsLate files (Some (log name path)) r
late-unlogged files name path c (Ok o) a m late = late
late-unlogged files name path c (Err q) a m late = no_damage files c.versions name (frontier_of c.rules path) (λ r e. undamaged c.rules path name r e) (ap (λ s. Err s) (sym late.0) ∙ m.sound c a)

no_list : (q : Refusal) (o : Outcome) → ◌≡◌ {A = Result Outcome Refusal} (Err q) (Ok o) → ⊥
no_list q o e = cc

pub late-unlisted : (files : Files) (name : List ℕ) (c : Contents) (r : Result Outcome Refusal) → ArchiveIs files name c → MayBe files (versions name) r
    → ¬ IsLate files (Some (versions name)) r
late-unlisted files name c (Ok o) a m late = late
late-unlisted files name c (Err q) a m late = no_list q (record { files = files; output = versions_text c.notes }) (m.sound c a)

-- what has no late refusal has no late outcome
pub no-late : (files : Files) (c : Option PlainCommand) (r : Result Outcome Refusal) → ((q : Refusal) → ¬ MayComeLate files c q) → ¬ IsLate files c r
no-late files c (Ok o) h late = late
no-late files c (Err q) h late = h q late
