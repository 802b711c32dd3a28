-- What the text of the company specification specifies.
use Rattle.std.proofs.Common.{◌≡◌, ℕ, Bool, true, cond, List, [], ◌∷◌, map, Option, Some, None, Result, Ok, Err, refl, ap, subst, ◌∙◌, arith}
use Rattle.std.specs.Prelude.{codes, nat_lt, ◌&&◌}
use Rattle.std.specs.List.{cons_option, list_all}
use Rattle.std.specs.Option.{option_map, option_or}
use Rattle.std.specs.Str.{IsAscii}
use Rattle.std.proofs.lemmas.Str.{IsUtf8-from_ascii, is_utf8-from_IsUtf8}
use Rattle.std.proofs.lemmas.Str.Ascii.{IsAscii-nil, IsAscii-cons}
use Rattle.std.proofs.lemmas.Bool.{ltb-true}
use Rattle.key_spec.specs.Canonical.{canonical}
use Rattle.key_spec.specs.Closed.{given_rules, paths_why, rule_why, line_fault, first_of_all, closing_fault, closed_rules, within_limits, unless, closed_lines, numbered, closed}
use Rattle.key_spec.specs.Data.{PlainRule, GivenRule, PlainSpecFault}
use Rattle.key_spec.specs.Lines.{lines}
use Rattle.key_spec.specs.View.{IsRefusal}
use Rattle.key_spec.specs.declared.fault.SpecFault.{SpecFault}
use Rattle.key_spec.specs.declared.fault.SpecFault.TheVariants.{Bad}
use Rattle.key_spec.specs.Form.{spelled, tokens, line_rule}
use Rattle.xarch_gen.specs.Company.{tag_path, own_content, rule_at, in_departments, in_employees, company_rules, company_text}

both : (a b : Bool) → (a && b) ≡ true → (a ≡ true) × (b ≡ true)
both a b e = grind arith

ascii : (bs : List ℕ) → list_all (λ b. nat_lt b 128) bs ≡ true → IsAscii bs
ascii [] e = IsAscii-nil
ascii (b ∷ bs) e = (let two = both (nat_lt b 128) (list_all (λ c. nat_lt c 128) bs) e in IsAscii-cons b bs (ltb-true b 128 two.0) (ascii bs two.1))

-- a line of ASCII gives the rule that its tokens spell
line-is : (line : List ℕ) (r : PlainRule) → list_all (λ b. nat_lt b 128) line ≡ true → spelled (tokens line) ≡ Some r → line_rule line ≡ Some r
unfolding line_rule
line-is line r e is =
    let text = is_utf8-from_IsUtf8 line (IsUtf8-from_ascii line (ascii line e)) in
    ap (λ b. cond b (spelled (tokens line)) None) text ∙ is

db-line : line_rule (codes "(/, (db, {}))") ≡ Some (rule_at [] (codes "db") [])
db-line = line-is _ _ refl refl

dept-line : line_rule (codes "(/db, (dept, {name}))") ≡ Some (rule_at (codes "db" ∷ []) (codes "dept") (tag_path (codes "name") ∷ []))
dept-line = line-is _ _ refl refl

emp-line : line_rule (codes "(/db/dept, (emp, {fn, ln}))") ≡ Some (rule_at in_departments (codes "emp") (tag_path (codes "fn") ∷ tag_path (codes "ln") ∷ []))
emp-line = line-is _ _ refl refl

name-line : line_rule (codes "(/db/dept, (name, {}))") ≡ Some (rule_at in_departments (codes "name") [])
name-line = line-is _ _ refl refl

fn-line : line_rule (codes "(/db/dept/emp, (fn, {}))") ≡ Some (rule_at in_employees (codes "fn") [])
fn-line = line-is _ _ refl refl

ln-line : line_rule (codes "(/db/dept/emp, (ln, {}))") ≡ Some (rule_at in_employees (codes "ln") [])
ln-line = line-is _ _ refl refl

sal-line : line_rule (codes "(/db/dept/emp, (sal, {}))") ≡ Some (rule_at in_employees (codes "sal") [])
sal-line = line-is _ _ refl refl

tel-line : line_rule (codes "(/db/dept/emp, (tel, {.}))") ≡ Some (rule_at in_employees (codes "tel") (own_content ∷ []))
tel-line = line-is _ _ refl refl

-- ---- the lines together

-- the lines give these rules, and the first pass finds no fault
record Gives (ls : List (ℕ × List ℕ)) (gs : List GivenRule) : Type 0 where
  rules : given_rules ls ≡ gs
  faultless : first_of_all line_fault ls ≡ None

given : ℕ → PlainRule → GivenRule
given n r = record { line = n; rule = r }

gives-none : Gives [] []
gives-none = record { rules = refl; faultless = refl }

gives-more : (n : ℕ) (line : List ℕ) (r : PlainRule) (ls : List (ℕ × List ℕ)) (gs : List GivenRule)
    → line_rule line ≡ Some r → paths_why r.paths ≡ None → Gives ls gs → Gives ((n, line) ∷ ls) (given n r ∷ gs)
unfolding given
gives-more n line r ls gs e good h = record {
  rules = λ i. cons_option (option_map (λ (rule : PlainRule). record { line = n; rule = rule }) (e i)) (h.rules i);
  faultless =
      ap (λ (o : Option PlainRule). option_or (option_map (λ (why : ℕ). record { line = n; why = why }) (rule_why o)) (first_of_all line_fault ls)) e
      ∙ ap (λ (o : Option ℕ). option_or (option_map (λ (why : ℕ). record { line = n; why = why }) o) (first_of_all line_fault ls)) good
      ∙ h.faultless;
}

-- the second pass over given rules, and their closed rules
abbrev close : List GivenRule → Result (List PlainRule) PlainSpecFault
close gs = (let rules = map (λ (g : GivenRule). g.rule) gs in unless (closing_fault rules [] gs) (within_limits (closed_rules rules)))

closed-given : (text : List ℕ) (ls : List (ℕ × List ℕ)) (gs : List GivenRule) → numbered 1 (lines text) ≡ ls → Gives ls gs → closed text ≡ close gs
unfolding closed
closed-given text ls gs e h = ap closed_lines e ∙ (λ i. unless (h.faultless i) (close (h.rules i)))

pub company_closed : closed company_text ≡ Ok company_rules
unfolding company_rules company_text canonical given
company_closed =
    closed-given company_text _ _ refl
    (gives-more 1 _ _ _ _ db-line refl
    (gives-more 2 _ _ _ _ dept-line refl
    (gives-more 3 _ _ _ _ emp-line refl
    (gives-more 4 _ _ _ _ name-line refl
    (gives-more 5 _ _ _ _ fn-line refl
    (gives-more 6 _ _ _ _ ln-line refl
    (gives-more 7 _ _ _ _ sal-line refl
    (gives-more 8 _ _ _ _ tel-line refl
    gives-none))))))))
    ∙ refl

pub company_canonical : canonical company_rules ≡ company_text
unfolding company_rules company_text canonical
company_canonical = refl

pub refused : (answer : Result (List PlainRule) PlainSpecFault) (fault : SpecFault) (line why : ℕ) → fault ≡ Bad line why → IsRefusal fault answer → answer ≡ Err (record { line = line; why = why })
refused answer fault line why e h = subst (λ (f : SpecFault). IsRefusal f answer) e h
