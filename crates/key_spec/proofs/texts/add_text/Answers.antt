use Rattle.std.proofs.Common.{◌≡◌, Bool, true, false, cond, ◌||◌, ◌∙◌, string_bytes, refl}
use Rattle.std.specs.BTreeSet.{contains_text}
use Rattle.std.specs.Str.{bytes_eq}
use Rattle.std.proofs.lemmas.Map.Text.{btree_set_updates_text}
use Rattle.std.proofs.lemmas.Cmp.{nat_list_eq_equiv}
use Rattle.key_spec.proofs.texts.add_text.Goals as goal

one_more : (b c old : Bool) → b ≡ c → cond b true old ≡ (old || (c || false))
one_more true true true e = refl
one_more true true false e = refl
one_more false false true e = refl
one_more false false false e = refl
one_more true false old e = cc
one_more false true old e = cc

pub returns-clause-added : goal.returns-clause-added
returns-clause-added c = λ q.
    btree_set_updates_text (string_bytes c.args.text) c.args.texts.now c.insert.new.self true c.in_ok-new.ensures.updates q
    ∙ one_more (bytes_eq (string_bytes c.args.text) q) (bytes_eq q (string_bytes c.args.text)) (contains_text c.args.texts.now q) (nat_list_eq_equiv.symm (string_bytes c.args.text) q)
