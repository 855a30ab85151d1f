-- The end is where the first space stands, or the line's.
use Rattle.std.proofs.Common.{rules, arith, ap, ◌∙◌, ◌≡◌, ◌-◌, true, false, drop, take, length, length-drop}
use Rattle.std.specs.Prelude.{eqb}
use Rattle.std.proofs.lemmas.Iterator.{IsFirst-from_position, YieldsList-from_slice}
use Rattle.std.proofs.lemmas.List.{take_rest}
use borrow.Author.Tests.{tests}
use Rattle.i2c_words.specs.Grammar.{char_space}
use Rattle.i2c_lists.specs.Reader.{word_length}
use Rattle.i2c_lists.proofs.FirstSpace.{first_at, nowhere}
use Rattle.i2c_lists.proofs.end_of.Goals as goal

pub returns-in-Some : goal.returns-in-Some
returns-in-Some c =
    let rest = take (length c.args.line.now - c.args.at) (drop c.args.at c.args.line.now) in
    let p = IsFirst-from_position _ _ c.position.result (λ x. eqb x char_space ≡ true) (λ x. eqb x char_space ≡ false) c.position.ensures.ran
    (YieldsList-from_slice rest c.iter.ensures.rest) (λ x q h. search (rules, tests)) (λ x q h. (search (rules, tests), search (rules, tests))) in
    let w = rw c.in-Some.is at p in
    let is : word_length rest ≡ c.in-Some.n = first_at rest c.in-Some.n w.0 (w.1 0) (λ j l. w.2 j 0 (omega arith) l) in
    let same : word_length rest ≡ word_length (drop c.args.at c.args.line.now) = ap word_length (take_rest c.args.line.now c.args.at) in
    omega (arith, is, same)

pub returns-in-None : goal.returns-in-None
returns-in-None c =
    let rest = take (length c.args.line.now - c.args.at) (drop c.args.at c.args.line.now) in
    let p = IsFirst-from_position _ _ c.position.result (λ x. eqb x char_space ≡ true) (λ x. eqb x char_space ≡ false) c.position.ensures.ran
    (YieldsList-from_slice rest c.iter.ensures.rest) (λ x q h. search (rules, tests)) (λ x q h. (search (rules, tests), search (rules, tests))) in
    let w = rw c.in-None.is at p in
    let is : word_length rest ≡ length rest = nowhere rest (λ j l. w j 0 (omega arith) l) in
    let same : word_length rest ≡ word_length (drop c.args.at c.args.line.now) = ap word_length (take_rest c.args.line.now c.args.at) in
    let left : length rest ≡ length c.args.line.now - c.args.at =
    ap length (take_rest c.args.line.now c.args.at) ∙ length-drop c.args.at c.args.line.now in
    omega (arith, is, same, left, c.requires)
