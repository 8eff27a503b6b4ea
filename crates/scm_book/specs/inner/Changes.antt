-- Which replies may tell of a change of the machine.
use Rattle.std.specs.Prelude.{Bool, true, false}
use Rattle.scm_book.specs.Machine.{ReplyData, done, marked}

-- a call with any other reply leaves the machine as it was
abbrev pub tells_of_change : ReplyData → Bool
tells_of_change done = true
tells_of_change (marked mark) = true
tells_of_change reply = false
