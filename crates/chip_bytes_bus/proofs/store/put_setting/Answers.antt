-- Register by register.
use Rattle.std.proofs.Common.{refl}
use Rattle.chip_bytes_bus.specs.StoreLaws.{wrote_protect1, wrote_protect2, wrote_protect3, wrote_over, wrote_under, wrote_cc, past, wrote_above}
use Rattle.chip_bytes_bus.proofs.store.put_setting.Goals as goal

pub returns-in-6 : goal.returns-in-6
returns-in-6 c = wrote_protect1 c.args.out.now c.args.v c.in-6.is refl

pub returns-in-7 : goal.returns-in-7
returns-in-7 c = wrote_protect2 c.args.out.now c.args.v c.in-7.is refl

pub returns-in-8 : goal.returns-in-8
returns-in-8 c = wrote_protect3 c.args.out.now c.args.v c.in-8.is refl

pub returns-in-9 : goal.returns-in-9
returns-in-9 c = wrote_over c.args.out.now c.args.v c.in-9.is refl

pub returns-in-10 : goal.returns-in-10
returns-in-10 c = wrote_under c.args.out.now c.args.v c.in-10.is refl

pub returns-in-11 : goal.returns-in-11
returns-in-11 c = wrote_cc c.args.out.now c.args.v c.in-11.is refl

pub returns-in_default : goal.returns-in_default
returns-in_default c = let r = c.in_default.in_default-own.rest in
    wrote_above c.args.out.now c.args.v c.args.a (past c.args.a c.requires r.0.0.0.0.0.1 r.0.0.0.0.1 r.0.0.0.1 r.0.0.1 r.0.1 r.1) refl
