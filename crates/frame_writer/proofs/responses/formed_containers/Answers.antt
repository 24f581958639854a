use Prim.Native.Nat.{ℕ}
use mathlib.Core.Path.{◌≡◌, refl, sym, ◌∙◌}
use mathlib.Core.List.{List}
use mathlib.Core.Bool.{Bool, ◌&&◌, and-true, and-false}
use borrow.Author.Tests.{eqb-true, le-leb, lt-leb}
use lib.ListN.{length}
use lib.Dec.{leb, eqb}
use Rattle.octets.specs.Octets.{Octets}
use Rattle.octets.proofs.Bools.{whether}
use Rattle.frame_variables.specs.Answers.{containers_length}
use Rattle.frame_writer.specs.Plain.{most_containers_octets}
use Rattle.frame_writer.specs.Responses.{containers_of, all_containers, formed_containers}
use Rattle.frame_writer.proofs.Containing.{containers_fit}
use Rattle.frame_writer.proofs.responses.formed_containers.Goals as goal

-- containers that stand in octets are each in plain form: what is left to be told is that they are all, and no more than fit
told : (s : List ℕ) → Octets s → (few : Bool) (n : ℕ) → few ≡ leb (length s) most_containers_octets → n ≡ containers_length (containers_of s)
    → (few && eqb n (length s)) ≡ formed_containers s
unfolding all_containers
told s o few n e m =
    let l = containers_length (containers_of s) in
    let f = leb (length s) most_containers_octets in
    rw (e, m)
    (whether (eqb l (length s))
    (λ t. rw (t, containers_fit s o, eqb-true l (length s) t) (and-true f))
    (λ u. rw u (and-false f)))

pub returns-then-containers-le-MOST_CONTAINERS_OCTETS : goal.returns-then-containers-le-MOST_CONTAINERS_OCTETS
returns-then-containers-le-MOST_CONTAINERS_OCTETS c =
    let s = c.args.containers.now in
    told s (λ i. (c.type_inv.containers i).fits) _ _ (sym (le-leb (length s) most_containers_octets c.if-containers-le-MOST_CONTAINERS_OCTETS.true)) c.containers_length.ensures

pub returns-else-containers-le-MOST_CONTAINERS_OCTETS : goal.returns-else-containers-le-MOST_CONTAINERS_OCTETS
returns-else-containers-le-MOST_CONTAINERS_OCTETS c =
    let s = c.args.containers.now in
    let many = lt-leb (length s) most_containers_octets c.if-containers-le-MOST_CONTAINERS_OCTETS.false in
    many ∙ told s (λ i. (c.type_inv.containers i).fits) _ _ (sym many) refl
