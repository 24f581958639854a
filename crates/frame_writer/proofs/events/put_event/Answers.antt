use Prim.Native.Nat.{ℕ}
use mathlib.Core.Path.{◌≡◌, ap, ◌∙◌}
use mathlib.Core.List.{List}
use native.Mathlib.Omega.{arith}
use lib.ListN.{length, get_or, take, drop, length-drop}
use lib.Seq.{sets, take_all}
use Rattle.frame_tlvs.proofs.Rows.{row_of}
use Rattle.frame_writer.proofs.Lengths.{length_row}
use Rattle.frame_writer.proofs.Sevens.{seven_is, widths_row, event_octets_lem}
use Rattle.frame_writer.proofs.events.put_event.Goals as goal

-- the values that are lent
values : (vs : List ℕ) → length vs ≡ 7 → take 6 (drop 1 vs) ≡ drop 1 vs
values vs l = take_all 6 (drop 1 vs) (omega (arith, length-drop 1 vs))

pub overflow_cast-kind : goal.overflow_cast-kind
overflow_cast-kind c = omega (arith, (seven_is _ c.requires.0).most)

pub put_tlv-requires : goal.put_tlv-requires
put_tlv-requires c =
    let vs = c.args.event.now in
    let e = seven_is vs c.requires.0 in
    let k = get_or vs 0 0 in
    rw (c.event_widths-widths.ensures, widths_row k e.least e.most, values vs e.long)
    (omega (arith, (row_of k e.least e.most).six, length-drop 1 vs, e.long), omega (arith, length_row k e.least e.most, c.requires.1))

pub returns : goal.returns
returns c =
    let a = c.args in
    let e = seven_is a.event.now c.requires.0 in
    let n = c.event_length-octets.ensures in (
      n,
      c.put_tlv.ensures
          ∙ rw (c.event_widths-widths.ensures, widths_row (get_or a.event.now 0 0) e.least e.most, values a.event.now e.long, n)
          (ap (sets a.out.now a.at) (event_octets_lem a.event.now e)),
    )
