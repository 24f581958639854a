-- Every frame that a call writes is the one that is meant: in plain form, stored in the first octets of the output, and read
-- back as it was meant, with the flags as they stand after the call. A ranged end's frame never meets the writer's refusal.
use Prim.Native.Nat.{ℕ, ◌≤◌}
use mathlib.Core.Path.{◌≡◌, refl, sym, ap, ◌∙◌}
use mathlib.Core.List.{List}
use mathlib.Core.Bool.{true, false, cond}
use mathlib.Core.Logic.{◌⊎◌, inl, inr, ⊎_elim}
use native.Mathlib.Omega.{arith}
use borrow.Author.Tests.{le-ltb}
use lib.ListN.{length}
use lib.Seq.{sets}
use Rattle.frame.specs.Frame.{Body, information, Message, accepted, decode}
use Rattle.frame_writer.specs.Encode.{encode}
use Rattle.frame_writer.specs.Plain.{plain_body, plain, sized}
use Rattle.frame_writer.specs.Writing.{writes, written, message_of, parts_of}
use Rattle.theorems_frame.proofs.Sizes.{encode-length}
use Rattle.theorems_frame.proofs.RoundTrip.{read_back}
use Rattle.link_end.specs.declared.End.{End}
use Rattle.link_end.specs.Taking.{Taken}
use Rattle.link_end.specs.Parts.{discovery_of}
use Rattle.link_end.specs.Sending.{fault_flag_of, flags_to_send, tlvs_to_send, dues, sends, sent}
use Rattle.link.specs.Outcomes.{Outcome, information_to_send, length_of, outcome, concluded, concluded_output}
use Rattle.link_end.specs.Granting.{granted}
use Rattle.link.specs.Requests.{octets_asked, request_to_send}
use Rattle.link_end.specs.Ranges.{ranged}
use Rattle.theorems_reach.specs.Machine.{Request, Input, Call, asked_of, outcome_of, output_of, body_by, meant}
use Rattle.theorems_reach.specs.Premises.{OfOctets}
use Rattle.octets.proofs.Bools.{whether}
use Rattle.theorems_reach.proofs.Coming.{Made, ticks, reports, hears, dues_after, Concludes, Grants, Comes, refuses, concludes, grants, comes}
use Rattle.theorems_reach.proofs.Standing.{Stands, Ranged, ranged_is}
use Rattle.theorems_reach.proofs.Keeping.{InputFits, octets_fit}
use Rattle.theorems_reach.proofs.Staying.{Lasting, made_stays, asked_stays}
use Rattle.theorems_reach.proofs.Passing.{passes_grant}
use Rattle.theorems_reach.proofs.Ranging.{made_ranged, asked_ranged}
use Rattle.theorems_reach.proofs.Plainly.{message_plain, information_plain, information_60, asked_sized, sized_is_plain, encode-sized}

-- no frame is written
pub record Silent (c : Call) (e : End) : Type 0 where
  pub none : (outcome_of c e).length ≡ 0
  pub output : output_of c e ≡ c.out

-- a frame is written
pub record Writes (c : Call) (e : End) : Type 0 where
  pub plainly : plain (meant c e) ≡ true
  pub octets : (outcome_of c e).length ≡ length (encode (meant c e))
  pub within : length (encode (meant c e)) ≤ length c.out
  pub output : output_of c e ≡ sets c.out 0 (encode (meant c e))
  pub reads : decode (encode (meant c e)) ≡ accepted (meant c e)

-- ---- the writer, where a message has plain form and the output is long enough

module _ (m : Message) (p : plain m ≡ true) where
  wrote_all : (octets : ℕ) → length (encode m) ≤ octets → length_of (writes m octets) ≡ length (encode m)
  unfolding writes
  wrote_all octets h = rw (p, le-ltb octets (length (encode m)) h)

  stored_all : (out : List ℕ) → length (encode m) ≤ length out → written m out ≡ sets out 0 (encode m)
  unfolding written
  stored_all out h = rw (p, le-ltb (length out) (length (encode m)) h)

  writes_it : (c : Call) (e : End) → meant c e ≡ m → length (encode m) ≤ length c.out
      → (outcome_of c e).length ≡ length_of (writes m (length c.out)) → output_of c e ≡ written m c.out → Writes c e
  writes_it c e k h o q =
      record {
        plainly = rw k p;
        octets = rw k (o ∙ wrote_all (length c.out) h);
        within = rw k h;
        output = rw k (q ∙ stored_all c.out h);
        reads = rw k (read_back m p);
      }

-- ---- what is meant

-- what is sent of an end: its flags and TLVs
sent_flags : (e : End) → flags_to_send (sent e) ≡ flags_to_send e
unfolding flags_to_send fault_flag_of discovery_of sent
sent_flags e = refl

sent_tlvs : (e : End) → tlvs_to_send (sent e) ≡ tlvs_to_send e
unfolding tlvs_to_send sent
sent_tlvs e = refl

pub made_body : (e after : End) (i : Input) (t : Taken) → Made e i t → body_by i e after ≡ information (parts_of (tlvs_to_send after))
made_body e after i t ticks = refl
made_body e after i t (reports r) = refl
made_body e after i t (hears f m d) = refl

dues_source : (e : End) (i : Input) (t : Taken) → Made e i t → (dues_after e t).settings.source ≡ e.settings.source
unfolding dues
dues_source e i t h = ap (λ (k : Lasting). k.settings.source) (made_stays e i t h)

granted_source : (q : Request) (e : End) → (granted e (asked_of q e).next).settings.source ≡ e.settings.source
unfolding dues granted
granted_source q e = ap (λ (k : Lasting). k.settings.source) (asked_stays q e)

-- ---- a tick, a report or an accepted frame

module _ (c : Call) (e : End) (h : Concludes c e) where
  abbrev next : End
  next = dues_after e h.made

  -- where the end sends, what it comes to
  module _ (t : sends next ≡ true) where
    pub sent-outcome : outcome_of c e
        ≡ outcome (sent next) 0 (length_of (writes (information_to_send next) (length c.out))) h.made.shown
    unfolding concluded
    sent-outcome = h.outcome ∙ rw t

    sent_output : output_of c e ≡ written (information_to_send next) c.out
    unfolding concluded_output
    sent_output = h.output ∙ rw t

    information_meant : meant c e ≡ information_to_send next
    unfolding information_to_send
    information_meant =
        let after : (outcome_of c e).end ≡ sent next = ap (λ (k : Outcome). k.end) sent-outcome in
        let source = dues_source e c.input h.made h.how in
        let flags = ap flags_to_send after ∙ sent_flags next in
        let tlvs = ap tlvs_to_send after ∙ sent_tlvs next in
        let body = made_body e (outcome_of c e).end c.input h.made h.how ∙ (λ i. information (parts_of (tlvs i))) in
        λ i. message_of (sym source i) (flags i) (body i)

    -- an owed frame for which there is room is written: the end's Information frame, 60 octets long
    module _ (o : InputFits c.input) (r : Ranged e) where
      abbrev next_stands : Stands next
      next_stands = (made_ranged e c.input h.made h.how o r).stands

      pub sends_writes : Writes c e
      sends_writes =
          writes_it (information_to_send next) (information_plain next next_stands) c e information_meant
          (rw (information_60 next next_stands) h.room) (ap (λ (k : Outcome). k.length) sent-outcome) sent_output

      pub sends_60 : (outcome_of c e).length ≡ 60
      sends_60 = sends_writes.octets ∙ ap (λ (m : Message). length (encode m)) information_meant ∙ information_60 next next_stands

  -- otherwise none is
  module _ (f : sends next ≡ false) where
    pub kept_outcome : outcome_of c e ≡ outcome next 0 0 h.made.shown
    unfolding concluded
    kept_outcome = h.outcome ∙ rw f

    pub sends_none : Silent c e
    unfolding concluded_output
    sends_none = record { none = ap (λ (k : Outcome). k.length) kept_outcome; output = h.output ∙ rw f }

-- how many octets such a call writes
pub concludes_octets : (c : Call) (e : End) (h : Concludes c e) → OfOctets c.input → ranged e ≡ true
    → (outcome_of c e).length ≡ cond (sends (dues_after e h.made)) 60 0
concludes_octets c e h o r =
    whether (sends (dues_after e h.made)) (λ t. rw t (sends_60 c e h t (octets_fit c.input o) (ranged_is e r))) (λ f. rw f (sends_none c e h f).none)

-- ---- a granted request

module _ (c : Call) (e : End) (r : Ranged e) (h : Grants c e) where
  abbrev request_body : Body
  request_body = (asked_of h.asked e).body

  abbrev request_end : End
  request_end = granted e (asked_of h.asked e).next

  request_meant : meant c e ≡ request_to_send request_body request_end
  unfolding request_to_send
  request_meant =
      let after : (outcome_of c e).end ≡ request_end = ap (λ (k : Outcome). k.end) h.outcome in
      let source = granted_source h.asked e in
      let body : body_by c.input e (outcome_of c e).end ≡ request_body = ap (λ (i : Input). body_by i e (outcome_of c e).end) h.how in
      λ i. message_of (sym source i) (flags_to_send (after i)) (body i)

  -- it is measured as its body is, which has a plain form
  request_asked : octets_asked (asked_of h.asked e) ≡ sized request_body
  request_asked = asked_sized (asked_of h.asked e) (passes_grant h).formed

  request_plain : plain_body request_body ≡ true
  request_plain = sized_is_plain request_body (omega (arith, (passes_grant h).formed, request_asked))

  request_sized : length (encode (request_to_send request_body request_end)) ≡ sized request_body
  unfolding request_to_send
  request_sized = encode-sized (request_to_send request_body request_end) request_plain

  pub grants_writes : Writes c e
  unfolding request_to_send
  grants_writes =
      let p = passes_grant h in
      let s = (asked_ranged h.asked e p.any p.permitted r).stands in
      writes_it (request_to_send request_body request_end) (message_plain request_end request_body s request_plain) c e
      request_meant (omega (arith, request_sized, request_asked, p.long)) (ap (λ (k : Outcome). k.length) h.outcome) h.output

  -- how many octets it writes
  pub grants_octets : (outcome_of c e).length ≡ sized request_body
  grants_octets = grants_writes.octets ∙ ap (λ (m : Message). length (encode m)) request_meant ∙ request_sized

-- ---- every call

by_comes : (c : Call) (e : End) → InputFits c.input → Ranged e → Comes c e → Silent c e ⊎ Writes c e
by_comes c e o r (refuses h) = inl (record { none = ap (λ (k : Outcome). k.length) h.outcome; output = h.output })
by_comes c e o r (concludes h) = whether (sends (dues_after e h.made)) (λ t. inr (sends_writes c e h t o r)) (λ f. inl (sends_none c e h f))
by_comes c e o r (grants h) = inr (grants_writes c e r h)

-- a call writes no frame, or the one that is meant
pub ranged_writes : (c : Call) (e : End) → InputFits c.input → Ranged e → Silent c e ⊎ Writes c e
ranged_writes c e o r = by_comes c e o r (comes c e)

pub silent_or_writes : (c : Call) (e : End) → OfOctets c.input → ranged e ≡ true → Silent c e ⊎ Writes c e
silent_or_writes c e o r = ranged_writes c e (octets_fit c.input o) (ranged_is e r)

-- and does what its length says
pub call_writes : (c : Call) (e : End) → OfOctets c.input → ranged e ≡ true → ((outcome_of c e).length ≡ 0 → ⊥) → Writes c e
call_writes c e o r n = ⊎_elim (λ s. absurd (n s.none)) (λ w. w) (silent_or_writes c e o r)

pub call_silent : (c : Call) (e : End) → OfOctets c.input → ranged e ≡ true → (outcome_of c e).length ≡ 0 → output_of c e ≡ c.out
call_silent c e o r n =
    ⊎_elim (λ s. s.output) (λ w. let long = (encode-length (meant c e) w.plainly).0 in absurd (omega (arith, w.octets))) (silent_or_writes c e o r)
