use Rattle.std.proofs.Common.{◌≡◌, ◌+◌, ◌∙◌, sym, ap, ap₂, lit<, ◌≤◌, true, false, List, ℕ, [], ◌∷◌, ◌++◌, length, map, take, get_or, eqb, Bor, arith, rules}
use Rattle.std.proofs.lemmas.Iterator.Splits.{YieldsList-from_str_split}
use Rattle.std.proofs.lemmas.Iterator.Consumers.{YieldsList-end, YieldsList-so_far, YieldsList-turn}
use Rattle.std.proofs.lemmas.List.{length-append, map-append, take_more_set}
use Rattle.std.proofs.lemmas.List.Folds.{list_all_at}
use Rattle.std.specs.List.{list_all, slice_split}
use Rattle.csv_tables.specs.Records.{has_field, repeats}
use Rattle.key_spec.specs.Names.{is_name}
use Rattle.xarch_words.proofs.KeyWords.{all-more, keys-are, keys-many, keys-twice, keys-unnamed, repeats-at, repeats-more}
use Rattle.xarch_words.proofs.keys.are_keys.Goals as goal

pub returns-then-count-eq-MOST : goal.returns-then-count-eq-MOST
returns-then-count-eq-MOST c =
    let yields = YieldsList-from_str_split 44 c.args.word.now (lit< tt) (cc) (cc) (cc) in
    let turn = YieldsList-turn yields c.loop-name.yielded _ c.loop-name.yielded_by _ _ c.in-Some.name c.in-Some.is c.next.ensures.steps in
    let before = turn.0 in
    let counted = c.loop-name.invariant.counted in
    let full : c.loop-name.count ≡ 16 = search rules in
    keys-many c.args.word.now (omega (arith, before, counted, full))

pub returns-then-not-is_name : goal.returns-then-not-is_name
returns-then-not-is_name c =
    let parts = slice_split (λ b. eqb b 44) c.args.word.now in
    let yields = YieldsList-from_str_split 44 c.args.word.now (lit< tt) (cc) (cc) (cc) in
    let turn = YieldsList-turn yields c.loop-name.yielded _ c.loop-name.yielded_by _ _ c.in-Some.name c.in-Some.is c.next.ensures.steps in
    let no : is_name (get_or parts (length c.loop-name.yielded) c.in-Some.name.now) ≡ false = sym (ap is_name turn.1) ∙ search rules in
    keys-unnamed c.args.word.now (list_all_at is_name parts _ _ turn.0 no)

pub returns-then-is_among : goal.returns-then-is_among
returns-then-is_among c =
    let parts = slice_split (λ b. eqb b 44) c.args.word.now in
    let yields = YieldsList-from_str_split 44 c.args.word.now (lit< tt) (cc) (cc) (cc) in
    let turn = YieldsList-turn yields c.loop-name.yielded _ c.loop-name.yielded_by _ _ c.in-Some.name c.in-Some.is c.next.ensures.steps in
    let so_far = YieldsList-so_far yields c.loop-name.yielded _ c.loop-name.yielded_by in
    let among : has_field (map (λ (t : Bor (List ℕ)). t.now) (take c.loop-name.count c.loop-name.names)) c.in-Some.name.now ≡ true = search rules in
    keys-twice c.args.word.now (repeats-at [] parts (length c.loop-name.yielded) c.in-Some.name.now turn.0
    (ap₂ has_field (sym so_far ∙ sym c.loop-name.invariant.kept) (sym turn.1) ∙ among))

pub loop-name-preserved : goal.loop-name-preserved
loop-name-preserved c =
    let done = map (λ (t : Bor (List ℕ)). t.now) c.loop-name.yielded in
    let more : map (λ (t : Bor (List ℕ)). t.now) (c.loop-name.yielded ++ c.in-Some.name ∷ []) ≡ done ++ c.in-Some.name.now ∷ [] = map-append (λ (t : Bor (List ℕ)). t.now) c.loop-name.yielded (c.in-Some.name ∷ []) in
    let is : is_name c.in-Some.name.now ≡ true = search rules in
    let among : has_field (map (λ (t : Bor (List ℕ)). t.now) (take c.loop-name.count c.loop-name.names)) c.in-Some.name.now ≡ false = search rules in
    let new : has_field done c.in-Some.name.now ≡ false = ap (λ (ys : List (List ℕ)). has_field ys c.in-Some.name.now) (sym c.loop-name.invariant.kept) ∙ among in
    let counted = c.loop-name.invariant.counted in
    let few = c.loop-name.invariant.few in
    let room = c.loop-name.invariant.room in
    let next : c.loop-name.count + 1 ≤ 16 = search rules in
    record {
      named = ap (list_all is_name) more ∙ all-more done c.in-Some.name.now c.loop-name.invariant.named is;
      apart = ap (repeats []) more ∙ repeats-more [] done c.in-Some.name.now c.loop-name.invariant.apart new;
      kept = ap (map (λ (t : Bor (List ℕ)). t.now)) (take_more_set c.loop-name.names c.loop-name.count c.in-Some.name (omega (arith, next, room)))
          ∙ map-append (λ (t : Bor (List ℕ)). t.now) (take c.loop-name.count c.loop-name.names) (c.in-Some.name ∷ [])
          ∙ ap (λ (ys : List (List ℕ)). ys ++ c.in-Some.name.now ∷ []) c.loop-name.invariant.kept ∙ sym more;
      counted = (let long = length-append c.loop-name.yielded (c.in-Some.name ∷ []) in omega (arith, long, counted));
      few = next;
      room = search rules;
    }

pub returns : goal.returns
returns c =
    let yields = YieldsList-from_str_split 44 c.args.word.now (lit< tt) (cc) (cc) (cc) in
    let end = YieldsList-end yields c.loop-name.yielded _ c.loop-name.yielded_by _ _ c.in-None.is c.next.ensures.steps in
    let counted = c.loop-name.invariant.counted in
    let few = c.loop-name.invariant.few in
    let all = end.1 in
    keys-are c.args.word.now (omega (arith, counted, few, all)) (ap (list_all is_name) (sym end.0) ∙ c.loop-name.invariant.named) (ap (repeats []) (sym end.0) ∙ c.loop-name.invariant.apart)
