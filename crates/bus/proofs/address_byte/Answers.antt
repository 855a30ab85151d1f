use Rattle.std.proofs.Common.{arith, eq-eqb, ne_eqb, ◌*◌, ◌+◌}
use Rattle.bus.specs.Bus.{addressed}
use Rattle.bus.proofs.address_byte.Goals as goal

pub returns-then-byte-setup : goal.returns-then-byte-setup
unfolding addressed
returns-then-byte-setup c = let own = c.args.setup.address * 2 in
    simp (ne_eqb c.args.byte own (λ e. omega (arith, e, c.if-byte-setup.true)), ne_eqb c.args.byte (own + 1) (λ e. omega (arith, e, c.if-byte-setup.true)), c.refuses.ensures)

pub returns-then-byte-eq0 : goal.returns-then-byte-eq0
unfolding addressed
returns-then-byte-eq0 c = simp (eq-eqb c.args.byte (c.args.setup.address * 2) (omega (arith, c.if-byte-setup.false, c.if-byte-eq0.true)), c.goes.ensures, c.crc_byte-crc.ensures)

pub returns : goal.returns
unfolding addressed
returns c = let own = c.args.setup.address * 2 in
    simp (ne_eqb c.args.byte own (λ e. omega (arith, e, c.if-byte-eq0.false)), eq-eqb c.args.byte (own + 1) (omega (arith, c.if-byte-setup.false, c.if-byte-eq0.false)), c.goes-2.ensures, c.crc_byte-crc.ensures)
