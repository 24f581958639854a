-- Calls of the listing one after the other, from a file's beginning and with a lent working frame.
use Rattle.std.specs.Prelude.{ℕ, List}
use Rattle.text.specs.Pieces.{Call, Run, run_of}
use Rattle.text_captures.specs.Feeding.{begun, State, captures}

abbrev pub run : List ℕ → List ℕ → List Call → Run State
run frame input calls = run_of captures (record { progress = begun; frame = frame }) input calls
