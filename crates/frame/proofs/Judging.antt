-- What is taken from the octets of a frame, and what its message says: where the frame is accepted the two agree, and where it is
-- refused the judge gives the number of the refusal. Callers need no more of the judge's definitions.
use Prim.Native.Nat.{ℕ}
use mathlib.Core.Path.{◌≡◌, refl, sym, ap, subst, ◌∙◌}
use mathlib.Core.List.{List}
use mathlib.Core.Bool.{false}
use native.Mathlib.Omega.{arith}
use borrow.Author.Tests.{le-ltb}
use lib.ListN.{length, get_or, drop}
use lib.Dec.{ltb}
use Rattle.octets.specs.Layout.{shortest_frame, body_start}
use Rattle.frame_body.specs.Information.{local_in}
use Rattle.frame_tlvs.specs.declared.Event.{Event}
use Rattle.frame_body.specs.Judging.{local_at}
use Rattle.frame_body.proofs.Judging.{none_held, held_is_local}
use Rattle.frame.specs.Frame.{Body, Message, code_of, Answer, refused, accepted, information, notification, request, response, loopback, organization, header_answer, decode, place_in, judgement, judgement_of, header_in, header_of, event_number, command_of, number_in, fixed_number, local_of}
use Rattle.frame.specs.Steps.{Stepped}
use Rattle.frame.specs.Judgement.{Refused, Accepted}
use Rattle.frame.proofs.Decoding.{header_long}
use Rattle.frame.proofs.Stepping.{shown}

module _ (f : List ℕ) where
  -- a frame that passed the tests of its header has its fixed octets
  long : header_answer f ≡ 0 → ltb (length f) shortest_frame ≡ false
  long h = le-ltb (length f) shortest_frame (header_long f h)

  number_by : ltb (length f) shortest_frame ≡ false → (b : Body) → get_or f 17 0 ≡ code_of b → Stepped f b → fixed_number f ≡ number_in b
  unfolding fixed_number
  number_by l (information ps) e h = rw (l, e)
  number_by l (notification n es) e h = rw (l, e) (sym h.0)
  number_by l (request ds) e h = rw (l, e)
  number_by l (response cs) e h = rw (l, e)
  number_by l (loopback n) e h = rw (l, e) (sym h)
  number_by l (organization oui x) e h = rw (l, e) (sym h.0)

  module _ (m : Message) (d : decode f ≡ accepted m) where
    pub header_agrees : header_of f m.skipped ≡ header_in m
    unfolding header_of
    header_agrees = let s = shown f m d in rw (long s.passed) (λ i. record { source = s.source i; flags = s.flags i; code = s.code i; skipped = m.skipped })

    pub number_agrees : fixed_number f ≡ number_in m.body
    number_agrees = let s = shown f m d in number_by (long s.passed) m.body s.code s.body

    pub event_number_agrees : (n : ℕ) (es : List Event) → m.body ≡ notification n es → event_number f ≡ n
    unfolding event_number
    event_number_agrees n es b = let s = shown f m d in
        let h : Stepped f (notification n es) = subst (Stepped f) b s.body in
        rw (long s.passed) (sym h.0)

    pub command_agrees : (n : ℕ) → m.body ≡ loopback n → command_of f ≡ n
    unfolding command_of
    command_agrees n b = let s = shown f m d in
        let h : Stepped f (loopback n) = subst (Stepped f) b s.body in
        rw (long s.passed) (sym h)

    local_by : (b : Body) → m.body ≡ b → local_at (drop body_start f) (place_in (drop body_start f) b) ≡ local_of b
    local_by (information ps) e =
        let met : Stepped f (information ps) = subst (Stepped f) e (shown f m d).body in
        held_is_local (drop body_start f) ∙ ap local_in (sym met)
    local_by (notification n es) e = none_held (drop body_start f)
    local_by (request ds) e = none_held (drop body_start f)
    local_by (response cs) e = none_held (drop body_start f)
    local_by (loopback n) e = none_held (drop body_start f)
    local_by (organization oui x) e = none_held (drop body_start f)

    pub local_agrees : local_at (drop body_start f) (place_in (drop body_start f) m.body) ≡ local_of m.body
    local_agrees = local_by m.body refl

-- what is taken from the octets of an accepted frame, its Local from where it is judged to stand, is what its message says, and
-- so many TLVs were skipped as it says
pub record Agrees (f : List ℕ) (at skipped : ℕ) (m : Message) : Type 0 where
  pub decoded : decode f ≡ accepted m
  pub header : header_of f skipped ≡ header_in m
  pub number : fixed_number f ≡ number_in m.body
  pub local : local_at (drop body_start f) at ≡ local_of m.body

module _ (f : List ℕ) where
  pub judged_accepted : (at skipped : ℕ) → judgement_of f ≡ Accepted at skipped → (m : Message) × Agrees f at skipped m
  unfolding judgement_of
  judged_accepted at skipped = go (decode f) refl
    where
      go : (a : Answer) → decode f ≡ a → judgement f a ≡ Accepted at skipped → (m : Message) × Agrees f at skipped m
      go (refused n) d e = let z : ◌≡◌ {A = ℕ} 0 1 = cc in absurd (omega arith)
      go (accepted m) d e =
          let there : place_in (drop body_start f) m.body ≡ at = cc in
          let many : m.skipped ≡ skipped = cc in (
            m,
            record {
              decoded = d;
              header = ap (header_of f) (sym many) ∙ header_agrees f m d;
              number = number_agrees f m d;
              local = subst (λ (n : ℕ). local_at (drop body_start f) n ≡ local_of m.body) there (local_agrees f m d);
            },
          )

  pub judged_refused : (n : ℕ) → judgement_of f ≡ Refused n → decode f ≡ refused n
  unfolding judgement_of
  judged_refused n = go (decode f) refl
    where
      go : (a : Answer) → decode f ≡ a → judgement f a ≡ Refused n → decode f ≡ refused n
      go (refused k) d e = d ∙ ap refused cc
      go (accepted m) d e = let z : ◌≡◌ {A = ℕ} 0 1 = cc in absurd (omega arith)
