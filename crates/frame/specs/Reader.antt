-- How the code comes to its answers. No public promise mentions anything here.
use Rattle.std.specs.Prelude.{ℕ, List, Bool, cond, length, get_or, drop, ltb, eqb}
use Rattle.octets.specs.declared.refusal.Refusal.{Refusal}
use Rattle.octets.specs.Layout.{body_start, events_start}
use Rattle.frame_body.specs.Lists.{whole_list}
use Rattle.frame_body.specs.Judging.{judged_information}
use Rattle.frame_body.specs.Judging.{Judged}
use Rattle.frame_body.specs.Judging.{Refused as RefusedBody, Whole}
use Rattle.frame_body.specs.Counting.{judged_events}
use Rattle.frame_body.specs.Counting.{JudgedEvents}
use Rattle.frame_body.specs.Counting.{BrokenEvent, WholeEvents}
use Rattle.frame_body.specs.Lists.{Descriptors, Containers}
use Rattle.frame.specs.Judgement.{Judgement, Refused, Accepted}

abbrev pub list_answer : Bool → ℕ
list_answer whole = cond whole 0 6

abbrev pub command_answer : ℕ → ℕ
command_answer n = cond (eqb n 1) 0 (cond (eqb n 2) 0 8)

-- the answer to the body of a code other than 00 and 01
unfoldable pub other_answer : List ℕ → ℕ → ℕ
other_answer f code =
    cond (eqb code 2) (list_answer (whole_list Descriptors (drop body_start f)))
    (cond (eqb code 3) (list_answer (whole_list Containers (drop body_start f)))
    (cond (eqb code 4) (command_answer (get_or f body_start 0))
    (cond (eqb code 0xfe) 0
    5)))

-- an answer to a body of some octets that has no TLV
abbrev pub other_judgement : ℕ → ℕ → Judgement
other_judgement answer octets = cond (eqb answer 0) (Accepted octets 0) (Refused answer)

-- a number in sixteen bits; no frame has room for more TLVs
abbrev pub sixteen_bits : ℕ → ℕ
sixteen_bits n = cond (ltb n 0xffff) n 0xffff

-- what a notification comes to by its events; its body of some octets has no Local TLV
abbrev pub events_judgement : JudgedEvents → ℕ → Judgement
events_judgement BrokenEvent octets = Refused 6
events_judgement (WholeEvents skipped) octets = Accepted octets (sixteen_bits skipped)

abbrev pub information_judgement : Judged → Judgement
information_judgement (RefusedBody n) = Refused n
information_judgement (Whole at skipped) = Accepted at (sixteen_bits skipped)

unfoldable pub body_judgement : List ℕ → Judgement
body_judgement f =
    cond (eqb (get_or f 17 0) 0) (information_judgement (judged_information (drop body_start f)))
    (cond (eqb (get_or f 17 0) 1) (events_judgement (judged_events (drop events_start f)) (length (drop body_start f)))
    (other_judgement (other_answer f (get_or f 17 0)) (length (drop body_start f))))
