use Rattle.std.proofs.Common.{List, true≢false, sym, subst, ◌∙◌, arith}
use Rattle.key_spec.specs.Data.{PlainRule}
use Rattle.key_spec.specs.View.{spec_view}
use Rattle.archive_file.specs.KeyedBy.{AreKeyedBy}
use Rattle.archive_file.proofs.AlikeLaws.{keyed-alike}
use Rattle.archive_file.proofs.FewItems.{sound-few}
use Rattle.archive_file.proofs.KeyedLaws.{sound-plain}
use Rattle.archive_file.proofs.OneReading.{sound-one}
use Rattle.archive_file.proofs.decode.decode_file.Goals as goal

pub returns-in_err-spec-clause-one : goal.returns-in_err-spec-clause-one
returns-in_err-spec-clause-one c = λ rules others vs us s z. sound-one rules vs others us c.args.bytes.now s z

pub returns-in_err-spec-clause-items : goal.returns-in_err-spec-clause-items
returns-in_err-spec-clause-items c = λ rules vs s. sound-few rules vs c.args.bytes.now s

pub returns-in_err-is_keyed-clause-one : goal.returns-in_err-is_keyed-clause-one
returns-in_err-is_keyed-clause-one c = λ rules others vs us s z. sound-one rules vs others us c.args.bytes.now s z

pub returns-in_err-is_keyed-clause-items : goal.returns-in_err-is_keyed-clause-items
returns-in_err-is_keyed-clause-items c = λ rules vs s. sound-few rules vs c.args.bytes.now s

pub returns-then-not-branch-clause-one : goal.returns-then-not-branch-clause-one
returns-then-not-branch-clause-one c = λ rules others vs us s z. sound-one rules vs others us c.args.bytes.now s z

pub returns-then-not-branch-clause-items : goal.returns-then-not-branch-clause-items
returns-then-not-branch-clause-items c = λ rules vs s. sound-few rules vs c.args.bytes.now s

pub returns-clause-one : goal.returns-clause-one
returns-clause-one c = λ rules others vs us s z. sound-one rules vs others us c.args.bytes.now s z

pub returns-clause-items : goal.returns-clause-items
returns-clause-items c = λ rules vs s. sound-few rules vs c.args.bytes.now s

pub returns-clause-alike : goal.returns-clause-alike
returns-clause-alike c = λ vs h. keyed-alike (spec_view c.in_ok-spec.spec) vs h

pub returns-in_err-spec-clause-plain : goal.returns-in_err-spec-clause-plain
returns-in_err-spec-clause-plain c = λ rules vs s. sound-plain rules vs c.args.bytes.now s

pub returns-in_err-is_keyed-clause-plain : goal.returns-in_err-is_keyed-clause-plain
returns-in_err-is_keyed-clause-plain c = λ rules vs s. sound-plain rules vs c.args.bytes.now s

pub returns-then-not-branch-clause-plain : goal.returns-then-not-branch-clause-plain
returns-then-not-branch-clause-plain c = λ rules vs s. sound-plain rules vs c.args.bytes.now s

pub returns-clause-plain : goal.returns-clause-plain
returns-clause-plain c = λ rules vs s. sound-plain rules vs c.args.bytes.now s

pub returns-then-not-branch-clause-damage : goal.returns-then-not-branch-clause-damage
returns-then-not-branch-clause-damage c = λ rules vs s. (
    let found = c.in_ok-spec.ensures.found rules vs s in
    let keyed = subst (λ (z : List PlainRule). AreKeyedBy z vs) (sym found.0) s.keyed in
    absurd (true≢false (sym ((c.in_ok-is_keyed.ensures.keyed vs found.1).1 keyed) ∙ c.if-not-branch.true)))

pub returns-clause-sound : goal.returns-clause-sound
returns-clause-sound c = λ vs at. (
    let few = c.in_ok-spec.ensures.few in
    let count = at.count in
    record {
      specification = c.in_ok-spec.ensures.specification;
      keyed = (c.in_ok-is_keyed.ensures.keyed vs at).0 c.if-not-branch.false;
      few = omega arith;
      file = c.in_ok-spec.ensures.file vs at;
    })

pub returns-clause-keyed : goal.returns-clause-keyed
returns-clause-keyed c = λ vs at. (c.in_ok-is_keyed.ensures.keyed vs at).0 c.if-not-branch.false
