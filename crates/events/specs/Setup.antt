-- CHIP S1, S4 and S5: the setup, and number 1. Assumes nothing.
use Rattle.std.specs.Prelude.{Bool, false, ◌&&◌, cond, ℕ, ◌*◌, eqb, leb, ltb, Result, Ok, Err}
use Rattle.constants.specs.Range.{PART_MOST, ADDRESS_LEAST, ADDRESS_MOST, GAIN_CODE_MOST, FLOOR_MOST}
use Rattle.constants.specs.Number.{DONE}
use Rattle.constants.specs.Refusal.{number_of}
use Rattle.constants.specs.declared.refusal.Refusal.{Refusal}
use Rattle.constants.specs.declared.refusal.Refusal.TheVariants.{BadSetup}
use Rattle.events.specs.declared.Setup.{Setup}

-- a number from the least to the most
abbrev pub between : ℕ → ℕ → ℕ → Bool
between least most n = leb least n && leb n most

-- the ranges of CHIP S4
abbrev pub setup_fits : ℕ → ℕ → ℕ → ℕ → ℕ → Bool
setup_fits part crc address gain floor =
    leb 1 part && leb part PART_MOST && leb crc 1 && leb ADDRESS_LEAST address && leb address ADDRESS_MOST
    && leb gain GAIN_CODE_MOST && leb floor FLOOR_MOST

abbrev pub setup_of : ℕ → ℕ → ℕ → ℕ → ℕ → ℕ → Setup
setup_of part crc address gain offset floor =
    record { part = part; crc = eqb crc 1; address = address; gain_code = gain; offset = offset; floor = floor; cells = 0 }

unfoldable pub checked_of : ℕ → ℕ → ℕ → ℕ → ℕ → ℕ → Result Setup Refusal
checked_of part crc address gain offset floor =
    cond (setup_fits part crc address gain floor) (Ok (setup_of part crc address gain offset floor)) (Err BadSetup)

-- the number of each answer (CHIP O4)
abbrev pub setup_number : Result Setup Refusal → ℕ
setup_number (Ok v) = DONE
setup_number (Err why) = number_of why

-- five inputs for part 1, ten for part 2, fifteen for part 3: that many groups of five
unfoldable pub groups : Setup → ℕ
groups u = cond (ltb u.part 3) u.part 3

unfoldable pub inputs : Setup → ℕ
inputs u = cond (ltb u.part 3) (5 * u.part) 15

-- the setup with the number of cells of a wiring record; 0 says that there is none
abbrev pub with_cells : ℕ → Setup → Setup
with_cells n u =
    record {
      part = u.part;
      crc = u.crc;
      address = u.address;
      gain_code = u.gain_code;
      offset = u.offset;
      floor = u.floor;
      cells = n;
    }

-- what is known of a setup by its part alone
abbrev pub standing : ℕ → Setup
standing part = record { part = part; crc = false; address = 0; gain_code = 0; offset = 0; floor = 0; cells = 0 }
