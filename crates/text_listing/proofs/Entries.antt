-- The entry of a frame that is judged, from its octets.
use Rattle.std.proofs.Common.{◌≡◌, ℕ, List}
use Rattle.frame.specs.Frame.{decode, judgement_of, header_of}
use Rattle.frame.specs.Judgement.{Refused as JudgedRefused, Accepted as JudgedAccepted}
use Rattle.frame.proofs.Judging.{judged_refused, judged_accepted}
use Rattle.text_listing.specs.Rows.{entry_of}
use Rattle.text_listing.specs.declared.row.Entry.TheVariants.{Accepted, Refused}

module _ (f : List ℕ) where
  pub entry_refused : (n : ℕ) → judgement_of f ≡ JudgedRefused n → Refused n ≡ entry_of (decode f)
  entry_refused n j = rw (judged_refused f n j)

  pub entry_accepted : (at skipped : ℕ) → judgement_of f ≡ JudgedAccepted at skipped
      → Accepted (header_of f skipped).code (header_of f skipped).flags (header_of f skipped).skipped ≡ entry_of (decode f)
  entry_accepted at skipped j = let a = (judged_accepted f at skipped j).1 in rw (a.decoded, a.header)
