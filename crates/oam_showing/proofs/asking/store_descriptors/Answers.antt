use Rattle.std.proofs.Common.{rules, ◌+◌, ◌*◌, ◌<◌, ◌≡◌, ◌∙◌, refl, ap, arith, length}
use Rattle.std.proofs.lemmas.List.Edits.{sets}
use Rattle.octets.specs.Octets.{num}
use Rattle.oam_showing.proofs.Asked.{asked, all_asked, one_asked, store_asked}
use Rattle.oam_showing.proofs.Triples.{number}
use Rattle.oam_showing.proofs.asking.store_descriptors.Goals as goal

pub loop-i-init : goal.loop-i-init
loop-i-init c =
    let e = all_asked c.args.body.now in
    (refl, omega (arith, c.requires.0, ap length e), ap (sets c.args.descriptors.now 0) e)

pub bounds-triples-i : goal.bounds-triples-i
bounds-triples-i c =
    let l = c.loop-i in
    let one = one_asked c.args.body.now (3 * l.i) (omega (arith, c.loop-i-test.true, l.invariant.1)) in
    omega (arith, c.as_chunks.ensures.front_len, one.0)

pub loop-i-preserved : goal.loop-i-preserved
loop-i-preserved c =
    let l = c.loop-i in
    let s = c.args.body.now in
    let k : 0 < length (asked s (3 * l.i)) = omega (arith, c.loop-i-test.true, l.invariant.1) in
    let one = one_asked s (3 * l.i) k in
    let e : 3 * l.i + 3 ≡ 3 * (l.i + 1) = omega arith in
    let d : c.from_be_bytes.result ≡ num 3 s (3 * l.i) =
    omega (arith, c.from_be_bytes.ensures, number s _ c.as_chunks.ensures.front l.i (omega (arith, one.0))) in
    (search rules, omega (arith, l.invariant.1, ap length (rw e at one.1)), l.invariant.2 ∙ store_asked s (3 * l.i) l.descriptors l.i k ∙ rw (e, d))
