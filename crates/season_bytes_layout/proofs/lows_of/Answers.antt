-- Each turn fills one place more.
use Rattle.std.proofs.Common.{arith, get_or, refl, rules, length, ℕ, ◌%◌, ◌≡◌, ◌<◌}
use Rattle.std.specs.Prelude.{replicate}
use Rattle.season.specs.Report.{each_place}
use Rattle.season.specs.PlacesLaws.{place_more, place_end}
use Rattle.season_bytes_layout.specs.Layout.{lows_of}
use Rattle.season_bytes_layout.proofs.lows_of.Goals as goal

pub loop-i-preserved : goal.loop-i-preserved
loop-i-preserved c = let h : c.loop-i.i < 15 = search rules in
    (omega (arith, h), place_more (replicate 15 0) c.loop-i.i (λ (j : ℕ). get_or c.args.of j 0 % 65536) _ h c.loop-i.invariant.1 refl)

pub returns : goal.returns
unfolding lows_of each_place
returns c = let e : c.loop-i.i ≡ 15 = search rules in
    place_end (replicate 15 0) c.loop-i.i (λ (j : ℕ). get_or c.args.of j 0 % 65536) _ refl e c.loop-i.invariant.1
