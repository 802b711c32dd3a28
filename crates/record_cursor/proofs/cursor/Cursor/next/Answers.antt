use Rattle.std.proofs.Common.{◌≡◌, ℕ, ◌+◌, ◌-◌, ◌≤◌, List, ◌∷◌, drop, string_bytes, Some, None, refl, sym, ap, subst, ◌∙◌}
use Rattle.std.specs.Prelude.{length}
use Rattle.std.specs.Option.{option_map}
use Rattle.std.specs.FinMap as map
use Rattle.xa_outside.specs.Folder.{bytes_or_none}
use Rattle.xa_outside.specs.Numbers.{PullsAtMost, after_pull}
use Rattle.record_cursor.specs.Faults.{IfDamage}
use Rattle.record_cursor.specs.Items.{PlainItem}
use Rattle.record_cursor.specs.Moves.{TellsFront, Comes, Goes}
use Rattle.record_cursor.specs.Next.{next_of, size_of, read_for}
use Rattle.record_cursor.specs.Places.{Standing}
use Rattle.record_cursor.specs.Spelled.{IsSpelled}
use Rattle.record_cursor.specs.Steps.{IsRead, IsLent, read_item}
use Rattle.record_cursor.specs.View.{PlainCursor, place_view, shown_item}
use Rattle.record_cursor.proofs.Fills.{damage-map}
use Rattle.record_cursor.proofs.ItemLaws.{PullsComing, pulls-coming, comes-some, no-end, read-finish}
use Rattle.record_cursor.proofs.SpelledLaws.{item-spelled}
use Rattle.record_cursor.proofs.cursor.Cursor.next.Goals as goal

pub returns-in-Some : goal.returns-in-Some
returns-in-Some g c =
    let e = c.in-Ok.ensures in
    let inside = c.self.inside in
    let inside_view : PlainCursor = record { name = string_bytes inside.name; length = inside.length; standing = place_view inside.place; at = inside.at } in
    let told = g.F.Folder.files c.args.folder.now in
    let s = place_view inside.place in
    let t = place_view c.in-Ok.step.place in
    let i : PlainItem = shown_item c.in-Some.item in
    let buffer : List ℕ = c.read_step.new.buffer in
    let is : IsRead c.in-Ok.step.read (length c.read_step.new.buffer) i = subst (λ (n : ℕ). IsRead c.in-Ok.step.read n i) (ap length c.as_slice.ensures.value) c.in-Some.ensures.is in
    let read : read_item c.in-Ok.step.read buffer ≡ Some i = ap (read_item c.in-Ok.step.read) (sym c.as_slice.ensures.value) ∙ sym c.in-Some.ensures.found in
    let lent : IsLent c.in-Ok.step.read buffer i = subst (λ (bs : List ℕ). IsLent c.in-Ok.step.read bs i) c.as_slice.ensures.value c.in-Some.ensures.spelled in
    let leads = e.leads i is in
    let new : PlainCursor = record { name = string_bytes inside.name; length = inside.length; standing = t; at = c.in-Ok.step.at } in
    let goes : Goes told c.args.self.now c.in-Some.item new = subst (λ (old : PlainCursor). Goes told old c.in-Some.item new) c.self.view_is (record {
      may_come = leads.may_come;
      moved = leads.moved;
      within = e.within;
      same_name = refl;
      same_length = refl;
      comes = λ bytes tells. (
          let named : TellsFront told c.as_str-name.result.now inside.length bytes = subst (λ (n : List ℕ). TellsFront told n inside.length bytes) (sym c.as_str-name.ensures.value) tells in
          e.told bytes named ∙ ap (option_map (λ (x : PlainItem). (x, (t, drop c.in-Ok.step.at bytes)))) read);
    }) in
    let stands : s ≡ c.args.self.now.standing = ap (λ (v : PlainCursor). v.standing) c.self.view_is in (
      (refl, (λ w. tt), goes),
      record {
        after = tt;
        files = e.reads.same_files;
        draft = e.reads.same_draft;
        numbers = leads.pulled ∙ ap (λ (u : Standing). after_pull (g.F.Folder.numbers c.args.folder.now) (read_for u i)) stands;
        pulls = subst (λ (v : PlainCursor). PullsAtMost (v.length - v.at) (g.F.Folder.numbers c.args.folder.now) (g.F.Folder.numbers c.read_step.new.folder)) c.self.view_is e.pulls;
        later = e.reads.later;
        cause = tt;
        reads = subst (PullsComing told (g.F.Folder.numbers c.args.folder.now) (g.F.Folder.numbers c.read_step.new.folder)) c.self.view_is (pulls-coming told c.as_str-name.result.now inside_view (g.F.Folder.numbers c.args.folder.now) (g.F.Folder.numbers c.read_step.new.folder) c.as_str-name.ensures.value e.only);
        undamaged = λ i is h. tt;
        again = λ stands. refl;
        damage = λ bytes tells. tt;
        whole = λ files there going ended. subst (λ (v : PlainCursor). v.length ≤ length (bytes_or_none (map.get files v.name))) c.self.view_is
            (subst (λ (n : List ℕ). inside.length ≤ length (bytes_or_none (map.get files n))) c.as_str-name.ensures.value (e.whole files there (λ same. going (sym stands ∙ same)) (read-finish c.in-Ok.step.read (length c.read_step.new.buffer) i is ended)));
        spelled = subst (λ (v : PlainCursor). (bytes : List ℕ) → TellsFront told v.name v.length bytes → IsSpelled v.standing i (drop v.at bytes) (drop (v.at + size_of v.standing i) bytes)) c.self.view_is (λ bytes tells. (
            let named : TellsFront told c.as_str-name.result.now inside.length bytes = subst (λ (n : List ℕ). TellsFront told n inside.length bytes) (sym c.as_str-name.ensures.value) tells in
            let comes = e.told bytes named ∙ ap (option_map (λ (x : PlainItem). (x, (t, drop c.in-Ok.step.at bytes)))) read in
            subst (λ (n : ℕ). IsSpelled s i (drop inside.at bytes) (drop n bytes)) leads.moved (item-spelled s t c.in-Ok.step.read buffer i (drop inside.at bytes) (drop c.in-Ok.step.at bytes) lent (e.spelled bytes named) comes)));
      },
    )

pub returns-in-None : goal.returns-in-None
returns-in-None g c =
    let e = c.in-Ok.ensures in
    let inside = c.self.inside in
    let inside_view : PlainCursor = record { name = string_bytes inside.name; length = inside.length; standing = place_view inside.place; at = inside.at } in
    let told = g.F.Folder.files c.args.folder.now in
    let buffer : List ℕ = c.read_step.new.buffer in
    let read : read_item c.in-Ok.step.read buffer ≡ None = ap (read_item c.in-Ok.step.read) (sym c.as_slice.ensures.value) ∙ sym c.in-None.ensures.found in (
      (refl, (λ w. tt), c.self.view_is),
      record {
        after = tt;
        files = e.reads.same_files;
        draft = e.reads.same_draft;
        numbers = tt;
        pulls = subst (λ (v : PlainCursor). PullsAtMost (v.length - v.at) (g.F.Folder.numbers c.args.folder.now) (g.F.Folder.numbers c.read_step.new.folder)) c.self.view_is e.pulls;
        later = e.reads.later;
        cause = tt;
        reads = subst (PullsComing told (g.F.Folder.numbers c.args.folder.now) (g.F.Folder.numbers c.read_step.new.folder)) c.self.view_is (pulls-coming told c.as_str-name.result.now inside_view (g.F.Folder.numbers c.args.folder.now) (g.F.Folder.numbers c.read_step.new.folder) c.as_str-name.ensures.value e.only);
        undamaged = subst (λ (v : PlainCursor). (i : PlainItem) (is : List PlainItem) → Comes told v (i ∷ is) → ⊥) c.self.view_is (λ i is h. (
            let named : TellsFront told c.as_str-name.result.now inside.length h.bytes = subst (λ (n : List ℕ). TellsFront told n inside.length h.bytes) (sym c.as_str-name.ensures.value) h.tells in
            comes-some told inside_view i is h (e.told h.bytes named ∙ ap (option_map (λ (x : PlainItem). (x, (place_view c.in-Ok.step.place, drop c.in-Ok.step.at h.bytes)))) read)));
        again = λ stands. absurd (no-end c.in-Ok.step.read buffer (e.again (ap (λ (v : PlainCursor). v.standing) c.self.view_is ∙ stands)) read);
        damage = subst (λ (v : PlainCursor). (bytes : List ℕ) → TellsFront told v.name v.length bytes → next_of v.standing (drop v.at bytes) ≡ None) c.self.view_is (λ bytes tells. (
            let named : TellsFront told c.as_str-name.result.now inside.length bytes = subst (λ (n : List ℕ). TellsFront told n inside.length bytes) (sym c.as_str-name.ensures.value) tells in
            e.told bytes named ∙ ap (option_map (λ (x : PlainItem). (x, (place_view c.in-Ok.step.place, drop c.in-Ok.step.at bytes)))) read));
        whole = λ files there going. tt;
        spelled = λ bytes tells. tt;
      },
    )

pub returns-in-Err : goal.returns-in-Err
returns-in-Err g c =
    let e = c.in-Err.ensures in
    let inside = c.self.inside in
    let inside_view : PlainCursor = record { name = string_bytes inside.name; length = inside.length; standing = place_view inside.place; at = inside.at } in
    let told = g.F.Folder.files c.args.folder.now in (
      (refl, (λ w. tt), c.self.view_is),
      record {
        after = tt;
        files = e.reads.same_files;
        draft = e.reads.same_draft;
        numbers = tt;
        pulls = subst (λ (v : PlainCursor). PullsAtMost (v.length - v.at) (g.F.Folder.numbers c.args.folder.now) (g.F.Folder.numbers c.read_step.new.folder)) c.self.view_is e.pulls;
        later = e.reads.later;
        cause = e.reads.cause;
        reads = subst (PullsComing told (g.F.Folder.numbers c.args.folder.now) (g.F.Folder.numbers c.read_step.new.folder)) c.self.view_is (pulls-coming told c.as_str-name.result.now inside_view (g.F.Folder.numbers c.args.folder.now) (g.F.Folder.numbers c.read_step.new.folder) c.as_str-name.ensures.value e.only);
        undamaged = subst (λ (v : PlainCursor). (i : PlainItem) (is : List PlainItem) → Comes told v (i ∷ is) → IfDamage c.in-Err.fault ⊥) c.self.view_is (λ i is h. (
            let named : TellsFront told c.as_str-name.result.now inside.length h.bytes = subst (λ (n : List ℕ). TellsFront told n inside.length h.bytes) (sym c.as_str-name.ensures.value) h.tells in
            damage-map c.in-Err.fault (next_of (place_view inside.place) (drop inside.at h.bytes) ≡ None) ⊥ (comes-some told inside_view i is h) (e.told h.bytes named)));
        again = λ stands. absurd (e.again (ap (λ (v : PlainCursor). v.standing) c.self.view_is ∙ stands));
        damage = subst (λ (v : PlainCursor). (bytes : List ℕ) → TellsFront told v.name v.length bytes → IfDamage c.in-Err.fault (next_of v.standing (drop v.at bytes) ≡ None)) c.self.view_is (λ bytes tells. (
            let named : TellsFront told c.as_str-name.result.now inside.length bytes = subst (λ (n : List ℕ). TellsFront told n inside.length bytes) (sym c.as_str-name.ensures.value) tells in
            e.told bytes named));
        whole = λ files there going. tt;
        spelled = λ bytes tells. tt;
      },
    )
