-- What is written is known to fit (Listing), where nothing is refused.
use Rattle.std.proofs.Common.{arith, length, ◌≡◌, ◌∙◌, sym, ap}
use Rattle.ranges.specs.Refusal.{refused_number}
use Rattle.i2c_lists.specs.Reader.{list_in}
use Rattle.i2c_lists.specs.Records.{number_for}
use Rattle.i2c_lists.proofs.Listing.{taken_fits, taken_all}
use Rattle.i2c_lists.proofs.toralinge_list.Goals as goal

pub overflow_cast-result : goal.overflow_cast-result
overflow_cast-result c =
    let none : number_for (list_in c.args.line.now) (length c.args.out.now) ≡ 0 = sym c.judge.ensures ∙ ap refused_number c.in-Ok.is in
    omega (arith, taken_fits c.args.line.now c.args.out.now c.put_list.result c.put_list.new.out none c.put_list.ensures, c.well_formed)

pub returns-in-Ok : goal.returns-in-Ok
returns-in-Ok c =
    let none : number_for (list_in c.args.line.now) (length c.args.out.now) ≡ 0 = sym c.judge.ensures ∙ ap refused_number c.in-Ok.is in
    taken_all c.args.line.now c.args.out.now c.put_list.result c.put_list.new.out none c.put_list.ensures (omega (arith, c.well_formed))
