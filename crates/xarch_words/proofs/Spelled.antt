-- What words that spell a command have seen to.
use Rattle.std.proofs.Common.{◌≡◌, ℕ, ◌≤◌, ◌&&◌, nat_le, Bool, true, false, List, [], ◌∷◌, Option, Some, None, codes, option_map, option_and_then, IfSome, if◌then◌else◌, refl, sym, subst}
use Rattle.std.specs.Str.{bytes_eq}
use Rattle.std.proofs.lemmas.Bool.{and_parts, leb-true}
use Rattle.key_spec.specs.Names.{is_name}
use Rattle.version_notes.specs.Notes.{is_printed}
use Rattle.xarch_words.specs.Commands.{PlainCommand, norm, init, add, rekey, get, history, log, check, stats, versions, export, import, cut, join, table, tablekeys, batch, demo, AreForTable, IsSpelled, are_keys, command_of, command_of_one, command_of_two, command_of_three, command_of_four, command_of_five, cut_of, demo_of, noted, number_of, question_of, table_of, tablekeys_of}
use Rattle.xarch_words.specs.View.{command_view}
use Rattle.xarch_words.specs.declared.words.Command.{Command}

-- a command, if it is one, that is spelled so
abbrev IfSpelled : Option PlainCommand → Type 0
IfSpelled c = IfSome c IsSpelled

-- of two commands, the one or the other
either : (b : Bool) (c d : Option PlainCommand) → IfSpelled c → IfSpelled d → IfSpelled (if b then c else d)
either true c d p q = p
either false c d p q = q

of-number : (n : Option ℕ) (f : ℕ → PlainCommand) → ((k : ℕ) → IsSpelled (f k)) → IfSpelled (option_map f n)
of-number None f p = tt
of-number (Some k) f p = p k

of-two_numbers : (n m : Option ℕ) (archive : List ℕ) → IfSpelled (option_and_then (λ s. option_map (λ c. demo s c archive) m) n)
of-two_numbers None m archive = tt
of-two_numbers (Some s) m archive = of-number m (λ c. demo s c archive) (λ k. tt)

of-noted : (b : Bool) (archive doc note : List ℕ) → is_printed note ≡ b → IfSpelled (if b then Some (add archive doc note) else None)
of-noted true archive doc note e = e
of-noted false archive doc note e = tt

of-ordered : (b : Bool) (archive new : List ℕ) (i j : ℕ) → nat_le i j ≡ b → IfSpelled (if b then Some (cut archive new i j) else None)
of-ordered true archive new i j e = leb-true i j e
of-ordered false archive new i j e = tt

of-cut : (n m : Option ℕ) (archive new : List ℕ) → IfSpelled (option_and_then (λ i. option_and_then (λ j. if nat_le i j then Some (cut archive new i j) else None) m) n)
of-cut None m archive new = tt
of-cut (Some i) None archive new = tt
of-cut (Some i) (Some j) archive new = of-ordered (nat_le i j) archive new i j refl

-- of a tag and keys that are as they should be, or of none
of-keys : (b : Bool) (tag keys : List ℕ) (c : PlainCommand) → (is_name tag && are_keys keys) ≡ b → (AreForTable tag keys → IsSpelled c) → IfSpelled (if b then Some c else None)
of-keys true tag keys c e f = (let parts = and_parts (is_name tag) (are_keys keys) e in f (record { named = parts.0; keyed = parts.1 }))
of-keys false tag keys c e f = tt

of-one : (word : List ℕ) → IfSpelled (command_of_one word)
of-one word = either (bytes_eq word (codes "batch")) (Some batch) None tt tt

of-two : (word archive : List ℕ) → IfSpelled (command_of_two word archive)
of-two word archive =
    either (bytes_eq word (codes "check")) (Some (check archive)) _ tt
    (either (bytes_eq word (codes "stats")) (Some (stats archive)) _ tt
    (either (bytes_eq word (codes "versions")) (Some (versions archive)) _ tt
    (either (bytes_eq word (codes "export")) (Some (export archive)) None tt tt)))

of-question : (word archive what : List ℕ) → IfSpelled (question_of word archive what)
unfolding question_of
of-question word archive what =
    either (bytes_eq word (codes "get")) (option_map (get archive) (number_of what)) _ (of-number (number_of what) (get archive) (λ k. tt))
    (either (bytes_eq word (codes "history")) (Some (history archive what)) _ tt
    (either (bytes_eq word (codes "log")) (Some (log archive what)) None tt tt))

of-three : (word first second : List ℕ) → IfSpelled (command_of_three word first second)
unfolding command_of_three
of-three word first second =
    either (bytes_eq word (codes "norm")) (Some (norm first second)) _ tt
    (either (bytes_eq word (codes "init")) (Some (init first second)) _ tt
    (either (bytes_eq word (codes "add")) (Some (add first second [])) _ refl
    (either (bytes_eq word (codes "rekey")) (Some (rekey first second)) _ tt
    (either (bytes_eq word (codes "import")) (Some (import first second)) (question_of word first second) tt (of-question word first second)))))

of-four : (word first second third : List ℕ) → IfSpelled (command_of_four word first second third)
of-four word first second third =
    either (bytes_eq word (codes "add")) (noted first second third) _ (of-noted (is_printed third) first second third refl)
    (either (bytes_eq word (codes "demo")) (demo_of first second third) _ (of-two_numbers (number_of first) (number_of second) third)
    (either (bytes_eq word (codes "tablekeys")) (tablekeys_of first second third) _ (of-keys (is_name first && are_keys second) first second (tablekeys first second third) refl (λ are. are))
    (either (bytes_eq word (codes "join")) (Some (join first second third)) None tt tt)))

of-five : (word first second third fourth : List ℕ) → IfSpelled (command_of_five word first second third fourth)
unfolding command_of_five
of-five word first second third fourth =
    either (bytes_eq word (codes "cut")) (cut_of first second third fourth) _ (of-cut (number_of third) (number_of fourth) first second)
    (either (bytes_eq word (codes "table")) (table_of first second third fourth) None (of-keys (is_name second && are_keys third) second third (table first second third fourth) refl (λ are. are)) tt)

spelled : (words : List (List ℕ)) → IfSpelled (command_of words)
spelled [] = tt
spelled (word ∷ []) = of-one word
spelled (word ∷ first ∷ []) = of-two word first
spelled (word ∷ first ∷ second ∷ []) = of-three word first second
spelled (word ∷ first ∷ second ∷ third ∷ []) = of-four word first second third
spelled (word ∷ first ∷ second ∷ third ∷ fourth ∷ []) = of-five word first second third fourth
spelled (word ∷ first ∷ second ∷ third ∷ fourth ∷ fifth ∷ more) = tt

viewed : (r : Option Command) → IfSpelled (option_map command_view r) → IfSome r (λ c. IsSpelled (command_view c))
viewed None p = tt
viewed (Some c) p = p

-- the command that was read is so
pub spelled-as : (r : Option Command) (words : List (List ℕ)) → option_map command_view r ≡ command_of words → IfSome r (λ c. IsSpelled (command_view c))
spelled-as r words is = viewed r (subst IfSpelled (sym is) (spelled words))
