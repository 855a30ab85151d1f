-- A record by its event, and a turn by what was read. Assumes nothing.
use mathlib.Core.Path.{◌≡◌, ap, sym, ◌∙◌}
use mathlib.Core.Bool.{Bool, true, false}
use mathlib.Core.List.{List}
use Prim.Native.Nat.{ℕ, ◌-◌}
use lib.Dec.{eqb}
use lib.ListN.{take, drop}
use Rattle.events.specs.declared.Counts.{Counts}
use Rattle.events.specs.Role.{role_of}
use Rattle.events.specs.declared.Role.{Role}
use Rattle.events.specs.declared.Event.{Event}
use Rattle.records.specs.declared.Read.{Read}
use Rattle.records.specs.declared.Read.TheVariants.{Record, Refused, Cut}
use Rattle.records.specs.Record.{read_of, counts_in}
use Rattle.std.specs.Prelude.{Result}
use Rattle.constants.specs.Refusal.{number_of}
use Rattle.constants.specs.declared.refusal.Refusal.{Refusal}
use Rattle.events.specs.declared.Setup.{Setup}
use Rattle.wiring.specs.Rows.{wired_with}
use Rattle.chip.specs.declared.Chip.{Chip}
use Rattle.chip.specs.Answer.{Stepped}
use Rattle.chip.specs.Chip.{numbered}
use Rattle.turn.specs.Turn.{Turn, wired_as, wires, acted_as, acted, stays_fresh, turn, turned, turn_of}
use Rattle.turn.specs.declared.Turned.{Turned}
use Rattle.turn.specs.TurnedLaws.{as_turn}

-- a record by what it does: x is what was found of it
pub acted_as_lem : {s : Stepped} {x : Role} (o : Bool) (c : Chip) (e : Event) (k : Counts) (y : Role) → x ≡ role_of e → x ≡ y
    → s ≡ acted_as o y e k c → s ≡ acted o e k c
unfolding acted
acted_as_lem o c e k y q w h = h ∙ ap (λ (r : Role). acted_as o r e k c) (sym w ∙ q)

pub wires_closed : {s : Stepped} (n : ℕ) (c : Chip) {op : Bool} → op ≡ false → s ≡ numbered 2 c → s ≡ wires op n c
wires_closed n c e h = h ∙ sym (ap (λ (o : Bool). wires o n c) e)

pub wires_fresh : {s : Stepped} {w w' : Result Setup Refusal} (n : ℕ) (c : Chip) {op : Bool} → op ≡ true → w ≡ wired_with c.setup n → w ≡ w' → s ≡ wired_as w' c → s ≡ wires op n c
wires_fresh n c e h q p = p ∙ ap (λ (w : Result Setup Refusal). wired_as w c) (sym q ∙ h) ∙ sym (ap (λ (o : Bool). wires o n c) e)

-- what was read, x
module _ (o : Bool) (c : Chip) (rest : List ℕ) (x : Read) (q : x ≡ read_of c.setup.part rest) where
  found : {t : Turn} (y : Read) → x ≡ y → t ≡ turned o c rest y → t ≡ turn_of o c rest
  unfolding turn_of
  found y w h = h ∙ ap (turned o c rest) (sym w ∙ q)

  -- number 9, another number, and a record that was done
  pub cut_short : {r : Turned} {s : Stepped} → x ≡ Cut → s ≡ numbered 9 c → as_turn r ≡ turn s o 0 true → as_turn r ≡ turn_of o c rest
  cut_short w h e = found Cut w (e ∙ ap (λ (s : Stepped). turn s o 0 true) h)

  pub refused : {r : Turned} {s : Stepped} (why : Refusal) (next : ℕ) → x ≡ Refused why next → s ≡ numbered (number_of why) c → as_turn r ≡ turn s o next (eqb c.setup.part 0) → as_turn r ≡ turn_of o c rest
  refused why next w h e = found (Refused why next) w (e ∙ ap (λ (s : Stepped). turn s o next (eqb c.setup.part 0)) h)

  pub done : {r : Turned} {s : Stepped} {n : Counts} (e : Event) (next : ℕ) → x ≡ Record e next → n ≡ counts_in e (take (next - 4) (drop 4 rest)) → s ≡ acted o e n c
      → as_turn r ≡ turn s (stays_fresh o c s) next false → as_turn r ≡ turn_of o c rest
  done e next w k h p =
      found (Record e next) w (p ∙ ap (λ (s : Stepped). turn s (stays_fresh o c s) next false) (h ∙ ap (λ (n : Counts). acted o e n c) k))
