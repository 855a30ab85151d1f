-- A line has at most 27 bytes. Assumes nothing.
use Rattle.std.specs.Prelude.{Bool, true, false, cond, List, [], ℕ, ◌≤◌, eqb, ltb, length}
use Rattle.std.proofs.Common.{arith, length-append}
use Rattle.turn.specs.declared.Entry.{Entry}
use Rattle.play_line.specs.Line.{leading, decimal, kind_text, bus_text, record_text, answer_text, state_text, line_of}

-- one text or another
cond_few : (b : Bool) (t u : List ℕ) (n : ℕ) → length t ≤ n → length u ≤ n → length (cond b t u) ≤ n
cond_few true t u n h k = h
cond_few false t u n h k = k

decimal_few : (n : ℕ) → length (decimal n) ≤ 5
unfolding decimal
decimal_few n =
    let few : (power : ℕ) → length (leading n power) ≤ 1 = λ power. cond_few (ltb n power) [] _ 1 (omega arith) (omega arith) in
    simp length-append (omega (arith, few 10000, few 1000, few 100, few 10))

kind_few : (rest : List ℕ) → length (kind_text rest) ≤ 4
unfolding kind_text
kind_few rest = cond_few (ltb (length rest) 4) _ _ 4 (omega arith) (omega arith)

bus_few : (flag byte : ℕ) → length (bus_text flag byte) ≤ 2
unfolding bus_text
bus_few flag byte = cond_few (eqb flag 1) _ _ 2 (omega arith) (omega arith)

pub line_few : (n : ℕ) (rest : List ℕ) (e : Entry) → length (line_of n rest e) ≤ 27
unfolding line_of record_text answer_text state_text
line_few n rest e = simp length-append (omega (arith, decimal_few n, kind_few rest, decimal_few e.number, bus_few e.flag e.byte))
