-- The theorems are not empty: there are runs of one end in which it loops, writes ten frames in a stretch and has the
-- eleventh refused, and loses its link. With the runs after these each slip that tests/definitions tries makes one of
-- them come out otherwise.
use Prim.Native.Nat.{ℕ, ◌*◌}
use mathlib.Core.Path.{◌≡◌, refl}
use mathlib.Core.List.{List, [], ◌∷◌, ◌++◌}
use mathlib.Core.Bool.{true}
use lib.ListN.{take, drop, replicate}
use Rattle.frame.specs.Flags.{flags_number}
use Rattle.frame.specs.Frame.{Body, information, loopback, header_answer, body_answer, decode}
use Rattle.frame_body.specs.Information.{information_at, information_step, information_walk}
use Rattle.frame_body.specs.declared.InformationPart.TheVariants.{Local as local}
use Rattle.frame_tlvs.specs.Tlvs.{tlv_at, mark_at}
use Rattle.frame_tlvs.specs.Walk.{walk}
use Rattle.frame_body.specs.declared.Information.{Information}
use Rattle.frame_variables.specs.Attributes.{formed_attributes}
use Rattle.frame_variables.specs.Answers.{formed_answers}
use Rattle.frame_writer.specs.Encode.{header_octets, information_octets, encode}
use Rattle.frame_writer.specs.Plain.{plain_flags, plain_information, plain, sized}
use Rattle.frame_writer.specs.Writing.{writes, written, message_of}
use Rattle.link_limit.specs.Tests.{request_answer}
use Rattle.octets.specs.Bits.{bit}
use Rattle.link_limit.specs.Limit.{frames_of_newest, written_frames, has_room, charged_meter, closes, turned_meter}
use Rattle.link_loopback.specs.Loopback.{role_after_local, obeys, may_start, may_stop}
use Rattle.link_peer.specs.Peers.{has_all, satisfies, satisfied, peer_active, peer_loopback, may_respond, peer_maximum, kept_from}
use Rattle.link_peer.specs.Ranges.{sound}
use Rattle.link_discovery.specs.Sending.{remote_field, fault_flag, own_information, cleared_information, cleared_record}
use Rattle.link_peer.specs.declared.Settings.{Settings}
use Rattle.link_loopback.specs.declared.Role.TheVariants.{Idle, Looping}
use Rattle.link_discovery.specs.declared.Discovery.TheVariants.{ActiveSendLocal}
use Rattle.link_end.specs.declared.Report.TheVariants.{LinkUp}
use Rattle.link_end.specs.Taking.{learned, obeys_command, obeyed, role_after, acted, is_repeat, shown_events, shown_of, taken_up, taken, taken_due}
use Rattle.link.specs.Hearing.{concluded_heard, concluded_heard_output, receive_of, receive_output}
use Rattle.link_end.specs.Reporting.{link_up, link_down, reported_due}
use Rattle.link.specs.Reports.{report_of, report_output}
use Rattle.link_end.specs.Granting.{answer_to, granted, decided, smaller_maximum}
use Rattle.link.specs.Requests.{request_to_send, concluded_request, concluded_request_output, request_of, request_output}
use Rattle.link_end.specs.Sending.{fault_flag_of, flags_to_send, allowed, tlvs_to_send, changed, dues, sends, sent}
use Rattle.link.specs.Outcomes.{information_to_send, concluded, concluded_output}
use Rattle.link_end.specs.Parts.{fresh_end, discovery_of, in_any, faulted, settled}
use Rattle.link_end.specs.Ticking.{missed, ticked, ticked_due}
use Rattle.link.specs.Ticks.{tick_of, tick_output}
use Rattle.theorems_reach.specs.Machine.{Input, tick, report, receive, request, start, tell, respond, Call, outcome_of, frame_of}
use Rattle.theorems_reach.specs.Runs.{after, history}
use Rattle.theorems_reach.specs.Intervals.{frames_back}

-- all definitions of the machine, opened at once
unfoldable pub machine : Unit {0}
unfolding flags_number header_answer body_answer decode information_at information_step information_walk tlv_at mark_at walk header_octets information_octets encode plain_flags plain_information plain sized formed_attributes formed_answers writes written request_answer bit frames_of_newest written_frames has_room charged_meter closes turned_meter role_after_local obeys may_start may_stop has_all satisfies satisfied peer_active peer_loopback may_respond peer_maximum kept_from sound remote_field fault_flag own_information cleared_information cleared_record learned obeys_command obeyed role_after acted is_repeat shown_events shown_of taken_up taken taken_due concluded_heard concluded_heard_output receive_of receive_output link_up link_down reported_due report_of report_output answer_to granted decided smaller_maximum request_to_send concluded_request concluded_request_output request_of request_output fault_flag_of flags_to_send allowed tlvs_to_send information_to_send changed dues sends sent concluded concluded_output fresh_end discovery_of in_any faulted settled missed ticked ticked_due tick_of tick_output
machine = tt

-- an active end that may be put in loopback, and a peer of the same kind
abbrev settings : Settings
settings = record { configuration = 5; size = 1518; oui = 1; vendor = 2; source = 4; required = 4 }

abbrev passive_settings : Settings
passive_settings = record { configuration = 4; size = 1518; oui = 1; vendor = 2; source = 4; required = 4 }

-- one that answers variable requests too
abbrev answering : Settings
answering = record { configuration = 21; size = 1518; oui = 1; vendor = 2; source = 4; required = 4 }

abbrev peer_of : ℕ → Information
peer_of configuration = record { version = 1; revision = 0; state = 0; configuration = configuration; oampdu = 1518; oui = 1; vendor = 2 }

abbrev peer : Information
peer = peer_of 5

-- 60 octets are lent
abbrev calling : Input → Call
calling i = record { input = i; out = replicate 60 0 }

-- a frame of the peer with its local field
abbrev hears_with : ℕ → Body → Call
hears_with field b = calling (receive (encode (message_of 3 (field * 8) b)))

-- one that says that the peer's discovery is complete
abbrev hears : Body → Call
hears b = hears_with 2 b

abbrev tells : Call
tells = calling (request (tell 1 (replicate 39 0)))

-- two descriptors are answered by one attribute, of two octets
abbrev responds : Call
responds = calling (request (respond (0x70001 ∷ 2 ∷ []) (8 ∷ 9 ∷ []) (0x70001 ∷ 0x70002 ∷ [])))

-- the link comes up, and the peer's Local TLV is heard
abbrev meets : Information → List Call
meets i = hears (information (local i ∷ [])) ∷ calling (report LinkUp) ∷ []

abbrev met : List Call
met = meets peer

-- and its enable: three frames are written
abbrev looped : List Call
looped = hears (loopback 1) ∷ met

-- the same of a peer that is not complete
abbrev early : List Call
early = hears_with 1 (loopback 1) ∷ hears_with 1 (information (local peer ∷ [])) ∷ calling (report LinkUp) ∷ []

-- so many ticks with nothing heard
abbrev quiet : ℕ → List Call
quiet n = replicate n (calling tick) ++ looped

-- seven requests after so many ticks, and then so many ticks more
abbrev busy : ℕ → ℕ → List Call
busy before later = replicate later (calling tick) ++ (replicate 7 tells ++ quiet before)

pub record Witness : Type 0 where
  pub taken : sound settings ≡ true
  -- an end loops
  pub loops : (after settings looped).role ≡ Looping
  -- ten frames are written, and a request for the eleventh is 13; so it is behind the tenth tick, whose frame waits
  pub ten : frames_back 10 (history settings (busy 9 0)) ≡ 10
  pub eleventh : (outcome_of tells (after settings (busy 9 0))).answer ≡ 13
  pub waits : frames_back 10 (history settings (busy 9 1)) ≡ 10
  pub behind_tenth : (outcome_of tells (after settings (busy 9 1))).answer ≡ 13
  -- the three of the ten that were written first leave the stretch with the eleventh tick, which writes the frame that waits
  pub waited : frames_back 10 (history settings (busy 9 2)) ≡ 8
  -- ten at once leave it with the eleventh tick, which writes the frame that waits since the tenth
  pub ten_later : frames_back 10 (history settings (busy 0 10)) ≡ 10
  pub eleven_later : frames_back 10 (history settings (busy 0 11)) ≡ 1
  -- a lost-link count of 49 stays, 50 enters FAULT
  pub forty_nine : (after settings (quiet 49)).role ≡ Looping
  pub fifty : discovery_of (after settings (quiet 50)) ≡ ActiveSendLocal
  -- an enable before SEND_ANY is not obeyed, and leaving SEND_ANY ends the loop
  pub too_early : (after settings early).role ≡ Idle
  pub leaves : (after settings (hears_with 1 (information []) ∷ looped)).role ≡ Idle
  -- "a received 3 keeps the last value"
  pub three : (after settings (hears_with 3 (information []) ∷ looped)).peer.kept ≡ 2
  -- a refused frame does not restart the lost-link count
  pub refused : (after settings (calling (receive []) ∷ calling tick ∷ looped)).link.lost ≡ 1
  -- a passive end may not start
  pub passive : (outcome_of (calling (request start)) (after passive_settings met)).answer ≡ 15
  -- what a start leaves owed, another request does not settle
  pub owed : (after settings (tells ∷ calling (request start) ∷ met)).own.owed ≡ true
  -- what is held is answered by its value, what is not by A1; not with own bit 4 clear, nor by an active end to a passive peer
  pub answers : take 11 (drop 18 (frame_of responds (after answering met))) ≡ 7 ∷ 0 ∷ 1 ∷ 2 ∷ 8 ∷ 9 ∷ 7 ∷ 0 ∷ 2 ∷ 0xa1 ∷ 0 ∷ []
  pub unable : (outcome_of responds (after settings met)).answer ≡ 15
  pub to_passive : (outcome_of responds (after answering (meets (peer_of 4)))).answer ≡ 15

pub witness : Witness
unfolding machine
witness =
    record {
      taken = refl;
      loops = refl;
      ten = refl;
      eleventh = refl;
      waits = refl;
      behind_tenth = refl;
      waited = refl;
      ten_later = refl;
      eleven_later = refl;
      forty_nine = refl;
      fifty = refl;
      too_early = refl;
      leaves = refl;
      three = refl;
      refused = refl;
      passive = refl;
      owed = refl;
      answers = refl;
      unable = refl;
      to_passive = refl;
    }
