-- The number of each refusal (CHIP O4). Assumes nothing.
use Rattle.std.specs.Prelude.{ℕ, Result, Ok, Err}
use Rattle.constants.specs.Answer.{Said, gives, refuses}
use Rattle.constants.specs.declared.refusal.Refusal.{Refusal}
use Rattle.constants.specs.declared.refusal.Refusal.TheVariants.{BadSetup, BadKind, BadValue, Asleep, NoRoom, NoCell, OpenSensor}
use Rattle.constants.specs.declared.refusal.Refusal.TheVariants.{NoCode, CutShort, NotConnected, NoFit, External, NoRow, NoList}
use Rattle.constants.specs.declared.refusal.Refusal.TheVariants.{BadAddress, SeasonFull, BadCommand, TooLong, OtherChip, NoChip}
use Rattle.constants.specs.declared.refusal.Refusal.TheVariants.{NoRecord, NotSo}
use Rattle.constants.specs.Number.{BAD_SETUP, BAD_KIND, BAD_VALUE, ASLEEP, NO_ROOM, NO_CELL, OPEN_SENSOR, NO_CODE, CUT, NOT_CONNECTED}
use Rattle.constants.specs.Number.{NO_FIT, EXTERNAL, NO_ROW, NO_LIST, BAD_ADDRESS, SEASON_FULL, BAD_COMMAND, TOO_LONG, OTHER_CHIP}
use Rattle.constants.specs.Number.{NO_CHIP, NO_RECORD, NOT_SO}

abbrev pub number_of : Refusal → ℕ
number_of BadSetup = BAD_SETUP
number_of BadKind = BAD_KIND
number_of BadValue = BAD_VALUE
number_of Asleep = ASLEEP
number_of NoRoom = NO_ROOM
number_of NoCell = NO_CELL
number_of OpenSensor = OPEN_SENSOR
number_of NoCode = NO_CODE
number_of CutShort = CUT
number_of NotConnected = NOT_CONNECTED
number_of NoFit = NO_FIT
number_of External = EXTERNAL
number_of NoRow = NO_ROW
number_of NoList = NO_LIST
number_of BadAddress = BAD_ADDRESS
number_of SeasonFull = SEASON_FULL
number_of BadCommand = BAD_COMMAND
number_of TooLong = TOO_LONG
number_of OtherChip = OTHER_CHIP
number_of NoChip = NO_CHIP
number_of NoRecord = NO_RECORD
number_of NotSo = NOT_SO

-- what a call's result says: the value, seen so, or the number of its refusal
abbrev pub said_of : {A B : Type 0} → (A → B) → Result A Refusal → Said B
said_of f (Ok v) = gives (f v)
said_of f (Err why) = refuses (number_of why)

-- a value made of the one that a result holds
abbrev pub made : {A B : Type 0} → (A → B) → Result A Refusal → Result B Refusal
made f (Ok v) = Ok (f v)
made f (Err why) = Err why
