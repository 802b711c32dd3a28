use Rattle.std.proofs.Common.{IsTrue, ◌∙◌, ap, subst, sym}
use Rattle.record_parts.specs.Checks.{value_fits}
use Rattle.record_parts.specs.Encodable.{value_back}
use Rattle.record_parts.specs.Spelling.{value_bytes}
use Rattle.spelled_archive.specs.View.{kept_view}
use Rattle.new_archive.proofs.spellings.spell_kept.Goals as goal

pub returns-in_ok-from_slice-in-Spelled : goal.returns-in_ok-from_slice-in-Spelled
returns-in_ok-from_slice-in-Spelled c =
    let same = c.lend.ensures ∙ sym (ap kept_view c.in-Spelled.is) in
    (subst (λ k. IsTrue (value_fits k)) same (value_back _ c.bytes.ensures.is), c.in_ok-from_slice-in-Spelled.ensures.items ∙ c.bytes.ensures.spelled ∙ ap value_bytes same)
