use Rattle.std.proofs.Common.{◌≡◌, ◌≤◌, None, Option, sym, subst, ◌∙◌, arith}
use Rattle.xa_outside.specs.Folder.{Files}
use Rattle.xa_outside.specs.NumberLaws.{PullsAtMost-more}
use Rattle.record_format.specs.Fronts.{header, header_at}
use Rattle.record_cursor.specs.Moves.{TellsFront}
use Rattle.record_cursor.proofs.Fills.{front-length, no-damage, damage-map}
use Rattle.record_cursor.proofs.Headers.{header-least, header-first, header-told, header-missing, stored-spelled, pulled-all}
use Rattle.record_cursor.proofs.front.read_header_in.Goals as goal

pub returns-in-Err-clause-only : goal.returns-in-Err-clause-only
returns-in-Err-clause-only g c = λ bytes rules n first tells stands fits. (
    let len = front-length (g.F.Folder.files c.args.folder.now) c.args.name.now bytes c.args.length tells in
    let least = header-least bytes (rules, n) first stands (omega (arith, len, fits)) in
    PullsAtMost-more 10 first (g.F.Folder.numbers c.args.folder.now) (g.F.Folder.numbers c.read_front.new.folder) (omega (arith, least)) c.in-Err.ensures.pulls)

pub returns-in-Err-read_rest-clause-pulls : goal.returns-in-Err-read_rest-clause-pulls
returns-in-Err-read_rest-clause-pulls g c =
    pulled-all c.in-Ok.first c.args.length (g.F.Folder.numbers c.args.folder.now) (g.F.Folder.numbers c.read_front.new.folder) (g.F.Folder.numbers c.read_rest.new.folder)
    c.in-Ok.ensures.within.0 c.in-Ok.ensures.within.1 c.in-Ok.ensures.pulls c.read_rest.ensures.pulls

pub returns-in-Ok-decode-clause-pulls : goal.returns-in-Ok-decode-clause-pulls
returns-in-Ok-decode-clause-pulls g c =
    pulled-all c.in-Ok.first c.args.length (g.F.Folder.numbers c.args.folder.now) (g.F.Folder.numbers c.read_front.new.folder) (g.F.Folder.numbers c.read_rest.new.folder)
    c.in-Ok.ensures.within.0 c.in-Ok.ensures.within.1 c.in-Ok.ensures.pulls c.read_rest.ensures.pulls

pub returns-clause-pulls : goal.returns-clause-pulls
returns-clause-pulls g c =
    pulled-all c.in-Ok.first c.args.length (g.F.Folder.numbers c.args.folder.now) (g.F.Folder.numbers c.read_front.new.folder) (g.F.Folder.numbers c.read_rest.new.folder)
    c.in-Ok.ensures.within.0 c.in-Ok.ensures.within.1 c.in-Ok.ensures.pulls c.read_rest.ensures.pulls

pub returns-in-Err-read_rest-clause-only : goal.returns-in-Err-read_rest-clause-only
returns-in-Err-read_rest-clause-only g c = λ bytes rules n first tells stands fits. (
    let len = front-length (g.F.Folder.files c.args.folder.now) c.args.name.now bytes c.args.length tells in
    let same : c.in-Ok.first ≡ first = header-first bytes (rules, n) first c.in-Ok.first stands (omega (arith, len, fits)) (c.in-Ok.ensures.told bytes tells).1 in
    pulled-all c.in-Ok.first first (g.F.Folder.numbers c.args.folder.now) (g.F.Folder.numbers c.read_front.new.folder) (g.F.Folder.numbers c.read_rest.new.folder)
    c.in-Ok.ensures.within.0 (omega (arith, same)) c.in-Ok.ensures.pulls c.read_rest.ensures.pulls)

pub returns-in-Ok-decode-clause-only : goal.returns-in-Ok-decode-clause-only
returns-in-Ok-decode-clause-only g c = λ bytes rules n first tells stands fits. (
    let len = front-length (g.F.Folder.files c.args.folder.now) c.args.name.now bytes c.args.length tells in
    let same : c.in-Ok.first ≡ first = header-first bytes (rules, n) first c.in-Ok.first stands (omega (arith, len, fits)) (c.in-Ok.ensures.told bytes tells).1 in
    pulled-all c.in-Ok.first first (g.F.Folder.numbers c.args.folder.now) (g.F.Folder.numbers c.read_front.new.folder) (g.F.Folder.numbers c.read_rest.new.folder)
    c.in-Ok.ensures.within.0 (omega (arith, same)) c.in-Ok.ensures.pulls c.read_rest.ensures.pulls)

pub returns-clause-only : goal.returns-clause-only
returns-clause-only g c = λ bytes rules n first tells stands fits. (
    let len = front-length (g.F.Folder.files c.args.folder.now) c.args.name.now bytes c.args.length tells in
    let same : c.in-Ok.first ≡ first = header-first bytes (rules, n) first c.in-Ok.first stands (omega (arith, len, fits)) (c.in-Ok.ensures.told bytes tells).1 in
    pulled-all c.in-Ok.first first (g.F.Folder.numbers c.args.folder.now) (g.F.Folder.numbers c.read_front.new.folder) (g.F.Folder.numbers c.read_rest.new.folder)
    c.in-Ok.ensures.within.0 (omega (arith, same)) c.in-Ok.ensures.pulls c.read_rest.ensures.pulls)

pub returns-in-Err-read_rest-clause-told : goal.returns-in-Err-read_rest-clause-told
returns-in-Err-read_rest-clause-told g c = λ bytes tells. (
    let front = c.in-Ok.ensures.told bytes tells in
    let later = subst (λ (t : Option Files). TellsFront t c.args.name.now c.args.length bytes) (sym c.in-Ok.ensures.reads.same_files) tells in
    no-damage c.in-Err-read_rest.fault (header_at bytes ≡ None) (c.in-Err-read_rest.ensures.told c.args.length bytes later c.in-Ok.ensures.within.1 front.0))

pub returns-in-Ok-decode-clause-told : goal.returns-in-Ok-decode-clause-told
returns-in-Ok-decode-clause-told g c = λ bytes tells. (
    let len = front-length (g.F.Folder.files c.args.folder.now) c.args.name.now bytes c.args.length tells in
    let front = c.in-Ok.ensures.told bytes tells in
    let fits : c.in-Ok.first ≤ c.args.length = c.in-Ok.ensures.within.1 in
    let later = subst (λ (t : Option Files). TellsFront t c.args.name.now c.args.length bytes) (sym c.in-Ok.ensures.reads.same_files) tells in
    let is = c.deref.ensures.value ∙ c.in-Ok-read_rest.ensures.told c.args.length bytes later fits front.0 in
    header-told bytes c.deref.result.now c.in-Ok.first _ front.1 (omega (arith, len, fits)) is c.in-Ok-decode.ensures.found)

pub returns-clause-told : goal.returns-clause-told
returns-clause-told g c = λ bytes tells. (
    let len = front-length (g.F.Folder.files c.args.folder.now) c.args.name.now bytes c.args.length tells in
    let front = c.in-Ok.ensures.told bytes tells in
    let fits : c.in-Ok.first ≤ c.args.length = c.in-Ok.ensures.within.1 in
    let later = subst (λ (t : Option Files). TellsFront t c.args.name.now c.args.length bytes) (sym c.in-Ok.ensures.reads.same_files) tells in
    let is = c.deref.ensures.value ∙ c.in-Ok-read_rest.ensures.told c.args.length bytes later fits front.0 in
    damage-map c.in-Err-decode.fault (header c.deref.result.now ≡ None) (header_at bytes ≡ None)
    (header-missing bytes c.deref.result.now c.in-Ok.first front.1 (omega (arith, len, fits)) is) c.in-Err-decode.ensures.found)

pub returns-in-Ok-decode-clause-spelled : goal.returns-in-Ok-decode-clause-spelled
returns-in-Ok-decode-clause-spelled g c = λ bytes tells. (
    let len = front-length (g.F.Folder.files c.args.folder.now) c.args.name.now bytes c.args.length tells in
    let front = c.in-Ok.ensures.told bytes tells in
    let fits : c.in-Ok.first ≤ c.args.length = c.in-Ok.ensures.within.1 in
    let later = subst (λ (t : Option Files). TellsFront t c.args.name.now c.args.length bytes) (sym c.in-Ok.ensures.reads.same_files) tells in
    let is = c.deref.ensures.value ∙ c.in-Ok-read_rest.ensures.told c.args.length bytes later fits front.0 in
    stored-spelled bytes c.deref.result.now c.in-Ok.first _ front.1 (omega (arith, len, fits)) is c.in-Ok-decode.ensures.bytes c.in-Ok-decode.ensures.found)
