use Prim.Native.Nat.{ℕ}
use mathlib.Core.Path.{refl, ap, ◌∙◌}
use mathlib.Core.List.{List, [], ◌∷◌, ◌++◌}
use lib.Seq.{sets}
use Rattle.link_limit.specs.declared.Meter.{Meter}
use Rattle.link_discovery.specs.Standing.{standing_number}
use Rattle.oam_packing.specs.Watches.{watch_shown}
use Rattle.oam_packing.specs.Numbers.{numbers_of}
use Rattle.oam_packing.proofs.Joining.{numbers_long}
use Rattle.oam.specs.Machine.{end_numbers}
use Rattle.oam.proofs.Stepped.{thrice_stored}
use Rattle.oam.proofs.machine.show_end.Goals as goal

pub returns : goal.returns
unfolding end_numbers
returns c =
    let a = c.args in
    let l = c.args.lent.now in
    let s = c.show-answer.ensures in
    let xs = numbers_of a.end.now in
    let place = c.from.ensures ∙ c.number.ensures ∙ ap standing_number c.discovery.ensures in
    let digits = c.intervals.ensures ∙ ap (λ (m : Meter). m.intervals) c.meter.ensures in
    let ys : List ℕ = c.from.result ∷ c.intervals.result ∷ [] in
    let zs = watch_shown a.watch.now in
    record {
      answers = s.answers;
      stored =
          c.show_watch.ensures
          ∙ ap (λ (m : List ℕ). sets (sets m 27 ys) 29 zs) (s.stored ∙ ap (λ (ns : List ℕ). sets l 0 ns) c.numbers_of.ensures)
          ∙ thrice_stored l xs ys zs 27 29 (numbers_long a.end.now) refl
          ∙ (λ i. sets l 0 (xs ++ ((place i ∷ digits i ∷ []) ++ zs)));
    }
