use Rattle.std.proofs.Common.{arith, rules, length, ℕ, ◌∙◌, ap, ◌≡◌, ◌-◌, take, drop, replicate, length-take, length-drop}
use Rattle.std.proofs.lemmas.List.{length-replicate}
use Rattle.octets.proofs.Stores.{stored}
use Rattle.frame_writer.proofs.padding.finish.Goals as goal

pub returns : goal.returns
returns c =
    let n = c.args.end in
    let m : length (take (60 - n) (drop n c.args.out.now)) ≡ 60 - n = omega (arith, length-take (60 - n) (drop n c.args.out.now), length-drop n c.args.out.now) in (
      omega arith,
      stored n 60 c.args.out.now (replicate (60 - n) 0) _ (c.fill.ensures.after (λ y h. search rules) ∙ ap (λ (k : ℕ). replicate k 0) m)
          (omega (arith, length-replicate {A = ℕ} (60 - n) 0)) (omega arith),
    )
