-- WHAT MOVES WHAT, as it is read: each part of the registers after an event, by the event, by the accepted write that it makes and by what
-- stood before; and over any events from power-up. Addresses, kinds and bits are the paper's numbers here. Assumes nothing.
use Rattle.std.specs.Prelude.{Bool, false, not, ◌&&◌, ◌||◌, cond, List, [], ◌∷◌, ℕ, ◌+◌, ◌*◌, ◌/◌, ◌%◌, eqb, leb, get_or}
use Rattle.events.specs.declared.Setup.{Setup}
use Rattle.events.specs.declared.BusEvent.TheVariants.{Start, Stop, Out, In}
use Rattle.events.specs.Setup.{groups}
use Rattle.events.specs.Event.{Event, Por, Boot, Pin, Xready, Scan, Temp, Count, Sense, Load, OnBus, Level, fits}
use Rattle.events.specs.declared.Fault.{Fault}
use Rattle.events.specs.declared.Fault.TheVariants.{Ov, Uv, Scd, Ocd}
use Rattle.bits.specs.Bit.{bit}
use Rattle.bus.specs.Bus.{Store}
use Rattle.std.specs.Prelude.{Some, None}
use Rattle.cell_counts.specs.Scan.{total, padded}
use Rattle.settings.specs.declared.Settings.{Settings}
use Rattle.registers.specs.declared.Status.{Status}
use Rattle.registers.specs.declared.Shown.{Shown}
use Rattle.registers.specs.declared.Cellbal.{Cellbal}
use Rattle.registers.specs.declared.Measured.{Measured}
use Rattle.registers.specs.declared.Registers.{Registers}
use Rattle.registers.specs.State.{dark, reset, alert}
use Rattle.registers.specs.Fault.{overridden}
use Rattle.protection.specs.Runs.{risen}
use Rattle.demands.specs.Demand.{wrote, chip, core, shown, standing}

-- ── an event by the number of its kind, and what it carries ──
abbrev pub kind_of : Event → ℕ
kind_of Por = 0x01
kind_of Boot = 0x02
kind_of (Scan xs) = 0x03
kind_of (Temp xs) = 0x04
kind_of (Count n) = 0x05
kind_of (Sense v) = 0x06
kind_of Pin = 0x07
kind_of (Load l) = 0x08
kind_of Xready = 0x09
kind_of (OnBus Start) = 0x10
kind_of (OnBus (Out b)) = 0x11
kind_of (OnBus (In nack)) = 0x12
kind_of (OnBus Stop) = 0x13
kind_of (Level l) = 0x15

abbrev pub counts_of : Event → List ℕ
counts_of Por = []
counts_of Boot = []
counts_of (Scan xs) = xs
counts_of (Temp xs) = xs
counts_of (Count n) = n ∷ []
counts_of (Sense v) = []
counts_of Pin = []
counts_of (Load l) = []
counts_of Xready = []
counts_of (OnBus b) = []
counts_of (Level l) = []

abbrev pub level_of : Event → Bool
level_of Por = false
level_of Boot = false
level_of (Scan xs) = false
level_of (Temp xs) = false
level_of (Count n) = false
level_of (Sense v) = false
level_of Pin = false
level_of (Load l) = l
level_of Xready = false
level_of (OnBus b) = false
level_of (Level l) = l

-- it is of this kind and in range
abbrev pub is : ℕ → Event → Bool
is k e = eqb (kind_of e) k && fits e

-- ── an accepted write: at this address, and the byte ──
abbrev pub at : ℕ → Store → Bool
at k None = false
at k (Some w) = eqb w.at k

abbrev pub value : Store → ℕ
value None = 0
value (Some w) = w.value

-- the settings: the bits that each register has; pair (0,1) is kept while (0,0) is held, every other pair leaves (0,0)
abbrev pub put : Store → Settings → Settings
put w s =
    record {
      adc_en = cond (at 0x04 w) (bit (value w) 16) s.adc_en;
      temp_sel = cond (at 0x04 w) (bit (value w) 8) s.temp_sel;
      shut_b = cond (at 0x04 w) (not s.shut_b && not (bit (value w) 2) && bit (value w) 1) s.shut_b;
      delay_dis = cond (at 0x05 w) (bit (value w) 128) s.delay_dis;
      cc_en = cond (at 0x05 w) (bit (value w) 64) s.cc_en;
      protect1 = cond (at 0x06 w) (value w / 128 * 128 + value w % 32) s.protect1;
      protect2 = cond (at 0x07 w) (value w % 128) s.protect2;
      protect3 = cond (at 0x08 w) (value w / 16 * 16) s.protect3;
      ov_trip = cond (at 0x09 w) (value w) s.ov_trip;
      uv_trip = cond (at 0x0A w) (value w) s.uv_trip;
      cc_cfg = cond (at 0x0B w) (value w % 64) s.cc_cfg;
    }

-- ── each part after one event in NORMAL ──
-- CELLBAL: the low five bits of an accepted write, for the inputs that the part has; XREADY clears all
abbrev pub five : Setup → ℕ → Event → Store → ℕ → ℕ
five u k e w old = cond (is 0x09 e) 0 (cond (at k w && leb k (groups u)) (value w % 32) old)

abbrev pub fives : Setup → Event → Store → Cellbal → Cellbal
fives u e w b =
    record { cellbal1 = five u 1 e w b.cellbal1; cellbal2 = five u 2 e w b.cellbal2; cellbal3 = five u 3 e w b.cellbal3 }

-- with ADC_EN 1 a SCAN stores its counts and BAT, a quarter of their sum rounded down, in a word of 16 bits; a TEMP its counts; a COUNT
-- its reading, with CC_EN or CC_ONESHOT 1
abbrev pub words : Event → Settings → Bool → Measured → Measured
words e s shot m =
    record {
      cells = cond (is 0x03 e && s.adc_en) (padded 15 (counts_of e)) m.cells;
      bat = cond (is 0x03 e && s.adc_en) (total (counts_of e) / 4 % 65536) m.bat;
      ts = cond (is 0x04 e && s.adc_en) (padded 3 (counts_of e)) m.ts;
      cc = cond (is 0x05 e && (s.cc_en || shot)) (get_or (counts_of e) 0 0) m.cc;
    }

-- all that is not shown in SYS_STAT and by the drives
abbrev pub moved : Setup → Event → Store → Bool → Registers → Registers
moved u e w shot r =
    record {
      settings = put w r.settings;
      shown = dark;
      cellbal = fives u e w r.cellbal;
      measured = words e r.settings shot r.measured;
      load_level = cond (is 0x08 e) (level_of e) r.load_level;
      outside_level = cond (is 0x15 e) (level_of e) r.outside_level;
    }

-- ── SYS_STAT and the drives ──
-- a one written to this bit of SYS_STAT
abbrev pub clear : ℕ → Store → Bool
clear k w = at 0x00 w && bit (value w) k

-- by the event, by its accepted write, by CC_EN, by the four faults that it raises, and by what was shown; before the outside level is
-- looked at. PIN raises its bit with SYS_STAT 0 alone. A write of SYS_CTRL2 puts a drive on where it asks for it and none of the drive's
-- bits is up; every other event leaves the drives, or puts them off
abbrev pub heard : Event → Store → Bool → (Fault → Bool) → Shown → Shown
heard e w cc r s =
    let t : Status = s.status in
    let both : Bool = is 0x09 e || (is 0x07 e && not (alert t)) in
    record {
      status =
          record {
            cc_ready = (is 0x05 e && (cc || s.cc_oneshot)) || (t.cc_ready && not (clear 128 w));
            xready = is 0x09 e || (t.xready && not (clear 32 w));
            ovrd_alert = (is 0x07 e && not (alert t)) || (t.ovrd_alert && not (clear 16 w));
            uv = r Uv || (t.uv && not (clear 8 w));
            ov = r Ov || (t.ov && not (clear 4 w));
            scd = r Scd || (t.scd && not (clear 2 w));
            ocd = r Ocd || (t.ocd && not (clear 1 w));
          };
      cc_oneshot =
          not (is 0x05 e) && cond (at 0x05 w) (bit (value w) 32 && not (bit (value w) 64) && not t.cc_ready) s.cc_oneshot;
      dsg_on =
          not (both || r Uv || r Scd || r Ocd)
          && cond (at 0x05 w) (bit (value w) 2 && not (t.uv || t.ocd || t.scd || t.ovrd_alert || t.xready)) s.dsg_on;
      chg_on = not (both || r Ov) && cond (at 0x05 w) (bit (value w) 1 && not (t.ov || t.ovrd_alert || t.xready)) s.chg_on;
    }

-- the outside level 1 with SYS_STAT 0 raises OVRD_ALERT and puts both drives off
abbrev pub leveled : Bool → Shown → Shown
leveled l s = cond (l && not (alert s.status)) (overridden s) s

module _ (u : Setup) where
  -- the faults that an event raises, by its verdict and the runs before it
  abbrev pub rose : List Event → Event → Fault → Bool
  rose past e k = fits e && risen u.floor (standing u past) (chip u past).runs e k

  -- ── and over any events from power-up: in SHIP the reset values ──
  unfoldable pub rest : List Event → Registers
  rest [] = reset
  rest (e ∷ past) =
      cond (core u (e ∷ past)).normal (moved u e (wrote u (core u past) e) (shown u past).cc_oneshot (rest past)) reset
