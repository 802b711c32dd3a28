-- The statuses with which the program ends.
use Rattle.std.proofs.Common.{◌≡◌, ◌≢◌, inl, inr, ℕ, ◌<◌, ◌≤◌, Option, None, Some, subst, sym, arith}
use Rattle.xa_outside.specs.Taken.{Taken}
use Rattle.xarch_words.specs.Commands.{PlainCommand, batch}
use Rattle.xarch_words.specs.Lines.{fault_status, refusal_status}
use Rattle.xarch_words.specs.Refusal.{Refusal, usage, no_file, exists, bad_spec, bad_json, bad_shape, key_fault, key_fault_in, no_version, bad_path, damaged, limit, not_frontier, spec_differs, bad_csv, bad_text, PlainFault, refused, folder_fault, out_fault, in_fault, memory}
use Rattle.xarch_meanings.specs.Ran.{Said, status_after}
use Rattle.xarch_run.specs.Batch.{IsAnswer}
use Rattle.real_program.specs.Serves.{IsStatus}

is-status : (answer : ℕ) → 2 ≤ answer → answer ≤ 20 → IsStatus answer
is-status answer low high = (λ one. omega (arith, one, low), high)

refusal-is : (q : Refusal) → IsStatus (refusal_status q)
refusal-is usage = is-status 2 (omega arith) (omega arith)
refusal-is (no_file n) = is-status 3 (omega arith) (omega arith)
refusal-is (exists n) = is-status 4 (omega arith) (omega arith)
refusal-is (bad_spec l w) = is-status 5 (omega arith) (omega arith)
refusal-is bad_json = is-status 6 (omega arith) (omega arith)
refusal-is (bad_shape p w) = is-status 7 (omega arith) (omega arith)
refusal-is (key_fault f) = is-status 8 (omega arith) (omega arith)
refusal-is (key_fault_in i f) = is-status 8 (omega arith) (omega arith)
refusal-is (no_version i n) = is-status 9 (omega arith) (omega arith)
refusal-is (bad_path s) = is-status 10 (omega arith) (omega arith)
refusal-is (damaged n) = is-status 11 (omega arith) (omega arith)
refusal-is (limit q n) = is-status 12 (omega arith) (omega arith)
refusal-is not_frontier = is-status 17 (omega arith) (omega arith)
refusal-is (spec_differs one two) = is-status 18 (omega arith) (omega arith)
refusal-is (bad_csv r w) = is-status 19 (omega arith) (omega arith)
refusal-is bad_text = is-status 20 (omega arith) (omega arith)

pub fault-is : (f : PlainFault) → IsStatus (fault_status f)
fault-is (refused q) = refusal-is q
fault-is folder_fault = is-status 13 (omega arith) (omega arith)
fault-is out_fault = is-status 14 (omega arith) (omega arith)
fault-is in_fault = is-status 15 (omega arith) (omega arith)
fault-is memory = is-status 16 (omega arith) (omega arith)

-- with which a command by itself ends
after-is : (f : Option PlainFault) → IsStatus (status_after f)
after-is None = (λ one. omega (arith, one), omega arith)
after-is (Some f) = fault-is f

said-is : (answer m n : ℕ) (e f : Taken) → Said answer e f m n → IsStatus answer
said-is answer m n e f s = subst IsStatus (sym s.status) (after-is s.fault)

-- with which a batch ends
batch-is : (a b c d e f answer : ℕ) → IsAnswer a b c d e f answer → IsStatus answer
batch-is a b c d e f answer (inl is) = subst IsStatus (sym is) (after-is None)
batch-is a b c d e f answer (inr (inl is)) = is-status answer (omega (arith, is)) (omega (arith, is))
batch-is a b c d e f answer (inr (inr (inl is))) = let it = is.0 in is-status answer (omega (arith, it)) (omega (arith, it))
batch-is a b c d e f answer (inr (inr (inr (inl is)))) = let it = is.0 in is-status answer (omega (arith, it)) (omega (arith, it))
batch-is a b c d e f answer (inr (inr (inr (inr (inl is))))) = let it = is.0 in is-status answer (omega (arith, it)) (omega (arith, it))
batch-is a b c d e f answer (inr (inr (inr (inr (inr is))))) = is-status answer (omega (arith, is)) (omega (arith, is))

-- what does not fail to hold of a number in these bounds holds
is-stable : (answer : ℕ) → ((IsStatus answer → ⊥) → ⊥) → IsStatus answer
is-stable answer h =
    let low : answer ≢ 1 = λ one. h (λ is. is.0 one) in
    let high : ¬ (20 < answer) = λ past. h (λ is. let most = is.1 in omega (arith, past, most)) in
    (low, omega (arith, high))

-- with which words end that are a command by itself, a batch, or no command
pub answer-is : (c : Option PlainCommand) (a b d g h i answer m n : ℕ) (e f : Taken) → (c ≢ Some batch → Said answer e f m n) → (c ≡ Some batch → IsAnswer a b d g h i answer) → IsStatus answer
answer-is c a b d g h i answer m n e f said many =
    is-stable answer (λ no. no (said-is answer m n e f (said (λ is. no (batch-is a b d g h i answer (many is))))))
