-- What is shown of a line of the sent-event log.
use Rattle.std.specs.Prelude.{ℕ, List, [], ◌∷◌}
use Rattle.text_eventlog.specs.Line.{event_in, read_line, Reading, Refused, LineIs}
use Rattle.text_eventlog.specs.declared.Line.{Line}
use Rattle.oam_showing.specs.Showing.{Shown, shows, roomy}

-- the nine values in the line's order
abbrev pub line_shown : Line → Shown
line_shown l = shows 0 (l.number ∷ l.position ∷ event_in l)

-- "anything else is 14"
abbrev pub reading_shown : Reading → Shown
reading_shown (Refused answer) = shows answer []
reading_shown (LineIs l) = line_shown l

-- what is shown of a text where the lent slice has some room
unfoldable pub text_shown : List ℕ → ℕ → Shown
text_shown text room = roomy 9 9 room (reading_shown (read_line text))
