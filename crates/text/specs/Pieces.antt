-- An input that is taken a character at a time, by calls that are each lent a piece of it and room for what is said. The
-- definitions are for any steps, whatever their state; the listing's, over lines, are `lister` of `text_listing`, those of a
-- capture file, over octets, `captures` of `text_captures`.
use Rattle.std.specs.Prelude.{ℕ, ◌+◌, ◌-◌, ◌≤◌, ◌<◌, List, [], ◌∷◌, ◌++◌, cond, ltb, length, take, drop, ◌≡◌}
use Rattle.std.proofs.lemmas.List.Edits.{sets}
use Rattle.text.specs.declared.pieces.Place.{Place}

-- The step at a character: the state after it, what is said there, and the room that is wanted before it is taken. At the
-- input's end there may be something left to say.
pub record Steps (S : Type 0) : Type 0 where
  pub next : S → ℕ → S
  pub says : S → ℕ → List ℕ
  pub wants : S → ℕ → ℕ
  pub last : S → List ℕ

-- what a call has come to: the state, the characters taken and the octets said
pub record Fed (S : Type 0) : Type 0 where
  pub state : S
  pub taken : ℕ
  pub said : List ℕ

abbrev pub takes : {S : Type 0} → Steps S → Fed S → ℕ → Fed S
takes r o c = record { state = r.next o.state c; taken = o.taken + 1; said = o.said ++ r.says o.state c }

-- The characters in order, with room for so many octets. The call stops before a character that wants more than is left.
unfoldable pub fed_from : {S : Type 0} → Steps S → ℕ → Fed S → List ℕ → Fed S
fed_from r room o [] = o
fed_from r room o (c ∷ rest) =
    cond (ltb (room - length o.said) (r.wants o.state c)) o (fed_from r room (takes r o c) rest)

-- all that there is to say of an input, from a state on
unfoldable pub to_say : {S : Type 0} → Steps S → S → List ℕ → List ℕ
to_say r s [] = r.last s
to_say r s (c ∷ rest) = r.says s c ++ to_say r (r.next s c) rest

-- ---- a call with a lent output

-- A stage of a call: the state, the characters of the piece that are taken, the octets that wait in the output to be written,
-- and the output.
pub record Stage (S : Type 0) : Type 0 where
  pub state : S
  pub taken : ℕ
  pub waiting : ℕ
  pub output : List ℕ

-- what is said is stored after what waits
abbrev pub stage_after : {S : Type 0} → Stage S → Fed S → Stage S
stage_after a o = record {
  state = o.state;
  taken = o.taken;
  waiting = a.waiting + length o.said;
  output = sets a.output a.waiting o.said;
}

-- the last stage of a call, from any other: the characters in order, with the room that the output has from what waits on
unfoldable pub gone_on : {S : Type 0} → Steps S → List ℕ → Stage S → Stage S
gone_on r piece a =
    stage_after a
    (fed_from r (length a.output - a.waiting) (record { state = a.state; taken = a.taken; said = [] }) (drop a.taken piece))

-- what a call promises: the stage that it comes to, and that what waits fits into the output
pub record Feeds {S : Type 0} (r : Steps S) (piece : List ℕ) (a b : Stage S) : Type 0 where
  pub comes : b ≡ gone_on r piece a
  pub fits : a.waiting ≤ length a.output → b.waiting ≤ length a.output

-- where an input stands between two characters: what is known of it, and the working frame that each call is lent
pub record State (P : Type 0) : Type 0 where
  pub progress : P
  pub frame : List ℕ

-- the stage of a call at a place, with its lent memory
abbrev pub stage : {P : Type 0} → P → Place → (frame out : List ℕ) → Stage (State P)
stage p at f out = record { state = record { progress = p; frame = f }; taken = at.taken; waiting = at.waiting; output = out }

-- ---- calls one after the other

-- a call's piece is the first characters of what is left of the input
pub record Call : Type 0 where
  pub size : ℕ
  pub room : ℕ

-- where the calls have come to: what is left of the input, and all that was said
pub record Run (S : Type 0) : Type 0 where
  pub state : S
  pub left : List ℕ
  pub said : List ℕ

abbrev pub called : {S : Type 0} → Steps S → Call → Run S → Run S
called r c run =
    let o = fed_from r c.room (record { state = run.state; taken = 0; said = [] }) (take c.size run.left) in
    record { state = o.state; left = drop o.taken run.left; said = run.said ++ o.said }

unfoldable pub run_from : {S : Type 0} → Steps S → Run S → List Call → Run S
run_from r run [] = run
run_from r run (c ∷ calls) = run_from r (called r c run) calls

-- from the input's beginning
abbrev pub run_of : {S : Type 0} → Steps S → S → List ℕ → List Call → Run S
run_of r s input calls = run_from r (record { state = s; left = input; said = [] }) calls

-- no character wants more room than that
abbrev pub Within : {S : Type 0} → Steps S → ℕ → Type 0
Within {S} r most = (s : S) (c : ℕ) → r.wants s c ≤ most

-- calls that are each given something, and room for whatever is wanted
abbrev pub Able : ℕ → List Call → Type 0
Able most [] = Unit {0}
Able most (c ∷ calls) = (0 < c.size) × (most ≤ c.room) × Able most calls
