-- What an Information body comes to, and the Local TLV that stands in it.
use Rattle.std.specs.Prelude.{ℕ, ◌+◌, List, false, cond, length, get_or, ltb, Option, None, Some, Result, Ok, Err}
use Rattle.octets.specs.Refusals.{number}
use Rattle.octets.specs.declared.refusal.Refusal.{Refusal}
use Rattle.frame_tlvs.specs.Walk.{Next, stop, broken, skip, has, walk, met, skipped_in, Parsed, refused, parts}
use Rattle.frame_body.specs.Information.{information_at, InformationStep, End, Broken, Skip, Local, Remote, information_step, information_walk, information_parts}
use Rattle.frame_body.specs.declared.Information.{Information}
use Rattle.frame_body.specs.declared.InformationPart.{InformationPart}
use Rattle.frame_body.specs.declared.Whole.{Whole as FoundWhole}

-- What an Information body comes to: the number of its refusal, or where its Local TLV stands, the body's length where it has none,
-- and how many TLVs are skipped in it.
pub data Judged : Type 0 where
  Refused : ℕ → Judged
  Whole : ℕ → ℕ → Judged

-- the judgement that the code gives
abbrev pub as_judged : Result FoundWhole Refusal → Judged
as_judged (Err r) = Refused (number r)
as_judged (Ok w) = Whole w.local w.skipped

-- what stands at octet `at` as a step of a walk whose parts are the octets of the Locals
abbrev pub local_next : ℕ → InformationStep → Next ℕ
local_next at End = stop
local_next at Broken = broken
local_next at (Skip n) = skip n
local_next at (Local i n) = has at n
local_next at (Remote i n) = skip n

-- the octet of the first Local that the walk meets; the body's length where it meets none
unfoldable pub local_place : List ℕ → ℕ
local_place s = get_or (met (walk (λ at. local_next at (information_step s at)) (length s) 0)) 0 (length s)

abbrev pub judged : ℕ → ℕ → Parsed InformationPart → Judged
judged place skipped (refused n) = Refused n
judged place skipped (parts ps) = Whole place skipped

unfoldable pub judged_information : List ℕ → Judged
judged_information s = judged (local_place s) (skipped_in (information_walk s)) (information_parts false false (information_walk s))

-- the Local TLV at octet `at` where one stands, whatever its type octet says; nothing where sixteen octets would run past the end
unfoldable pub local_at : List ℕ → ℕ → Option Information
local_at s at = cond (ltb (length s) (at + 16)) None (Some (information_at s at))
