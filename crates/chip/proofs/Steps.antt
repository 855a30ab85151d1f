-- An event made by hand, by whether its counts fit: 2, or what it means is stepped. Assumes nothing.
use mathlib.Core.Path.{◌≡◌, sym, ap, ◌∙◌}
use mathlib.Core.Bool.{Bool, true, false, cond}
use Rattle.events.specs.declared.Counts.{Counts}
use Rattle.events.specs.declared.Event.{Event as Coded}
use Rattle.events.specs.Event.{counts_wanted, counts_fit, unfit, event_of, meant_of}
use Rattle.chip.specs.declared.Chip.{Chip}
use Rattle.chip.specs.Answer.{Stepped}
use Rattle.chip.specs.Chip.{numbered, stepped_as, stepped_by}

pub step_unfit : {s : Stepped} (e : Coded) (k : Counts) (c : Chip) → counts_fit (counts_wanted c.setup e) k ≡ false → s ≡ numbered 2 c → s ≡ stepped_by e k c
unfolding meant_of
step_unfit e k c f h = h ∙ ap (λ (t : Bool). stepped_as (cond t (event_of c.setup e k.of) unfit) c) (sym f)

pub step_fit : {s : Stepped} (e : Coded) (k : Counts) (c : Chip) → counts_fit (counts_wanted c.setup e) k ≡ true → s ≡ stepped_as (event_of c.setup e k.of) c → s ≡ stepped_by e k c
unfolding meant_of
step_fit e k c f h = h ∙ ap (λ (t : Bool). stepped_as (cond t (event_of c.setup e k.of) unfit) c) (sym f)
