-- Where the program stands between two turns: what was read and what was written, and what is still to be listed.
use Rattle.std.proofs.Common.{◌≡◌, ℕ, ◌+◌, ◌-◌, ◌*◌, ◌^◌, ◌<◌, ◌≤◌, List, [], ◌++◌, replicate, Option, Some, None, IfSome, Result, Ok, Err, OnOk, length, take, drop, sym, refl, ap, ◌∙◌, arith, append_assoc, append-nil, drop_of_length-le, subst, length-append, length-take-le}
use Rattle.std.specs.Io.KnownBytes.{Appends, Consumes, IsAtEnd}
use Rattle.std.proofs.KnownBytes.{Appends-nil, Appends-trans, Consumes-nil, Consumes-trans, Consumes-whole}
use Rattle.text.specs.Put.{Put}
use Rattle.text.specs.Pieces.{Steps, State, to_say, Within, stage, Feeds}
use Rattle.text.specs.declared.pieces.Place.{Place}
use Rattle.text.proofs.Puts.{fitting, stored_there}
use Rattle.text_listing.specs.Rows.{header}
use Rattle.listing_program.specs.Listed.{listed}
use Rattle.theorems_listing.proofs.Calling.{still_to_say, within_piece, more_taken}
use lib.Seq.{length-sets}

-- at the input's end
said_at_end : {S : Type 0} (r : Steps S) (s : S) → to_say r s [] ≡ r.last s
unfolding to_say
said_at_end r s = refl

-- what follows of an `Ok`
pub on_ok : {T E : Type 0} {A B : Type 0} (r : Result T E) → OnOk r A → (A → B) → OnOk r B
on_ok (Ok x) a f = f a
on_ok (Err x) a f = tt

-- what is written of known octets, in other words
pub in_words : (o W W' : Option (List ℕ)) (most : ℕ) (f g : List ℕ → List ℕ) → ((xs : List ℕ) → f xs ≡ g xs) → most ≤ 65536
    → IfSome o (λ xs. length xs < 2 ^ 62 → most ≤ 65536 → Appends W W' (f xs)) → IfSome o (λ xs. length xs < 2 ^ 62 → Appends W W' (g xs))
in_words None W W' most f g same room h = tt
in_words (Some xs) W W' most f g same room h = λ few. subst (Appends W W') (same xs) (h few room)

module _ {P : Type 0} (r : Steps (State P)) (most : ℕ) (within : Within r most) (p₀ : P) (R₀ W₀ : Option (List ℕ)) where
  -- a turn has begun so many times, and each of them reads an octet or more, or takes one
  pub record Turned (turns : ℕ) (R W : Option (List ℕ)) (p : P) (frame piece rows : List ℕ) (size taken waiting : ℕ) : Type 0 where
    pub read : List ℕ
    pub written : List ℕ
    pub consumed : Consumes R₀ R read
    pub appended : Appends W₀ W written
    pub same : (rest : List ℕ) → listed r p₀ (read ++ rest)
        ≡ written ++ take waiting rows ++ to_say r (record { progress = p; frame = frame }) (drop taken (take size piece) ++ rest)
    pub waits : waiting ≤ length rows
    pub sized : size ≤ length piece
    pub onward : taken ≤ size
    pub roomy : length rows ≡ 65536
    pub counts : most ≤ 65536 → turns + (size - taken) ≤ 2 * length read

  -- before the first turn, the header waits
  pub starts : {empty rows piece : List ℕ} {waiting : ℕ} → length empty ≡ 65536 → Put header empty 0 waiting rows
      → Turned 0 R₀ W₀ p₀ (replicate 1514 0) piece rows 0 0 waiting
  starts {empty} {rows} long put =
      let stored = fitting header empty 0 put (omega arith) in
      record {
        read = [];
        written = [];
        consumed = Consumes-nil R₀;
        appended = Appends-nil W₀;
        same = λ rest. rw (stored.next, stored.output, stored_there empty 0 header (omega arith));
        waits = rw (stored.next, stored.output, length-sets empty 0 header) (omega arith);
        sized = omega arith;
        onward = omega arith;
        roomy = rw (stored.output, length-sets empty 0 header) long;
        counts = λ _. omega arith;
      }

  module _ {turns : ℕ} {R W : Option (List ℕ)} {p : P} {frame piece rows : List ℕ} {size taken waiting : ℕ}
      (t : Turned turns R W p frame piece rows size taken waiting) where
    -- the piece is all taken
    none_left : taken ≡ size → drop taken (take size piece) ≡ []
    none_left e = drop_of_length-le (take size piece) (omega (arith, e, length-take-le size piece t.sized))

    module _ {W' : Option (List ℕ)} (writes : Appends W W' (take waiting rows)) where
      -- the next piece is read
      pub reads : {R' : Option (List ℕ)} {piece' : List ℕ} {count : ℕ} → taken ≡ size → Consumes R R' (take count piece') → 0 < count → count ≤ length piece'
          → Turned (turns + 1) R' W' p frame piece' rows count 0 0
      reads {piece' = piece'} {count} e got some within =
          let next = take count piece' in
          record {
            read = t.read ++ next;
            written = t.written ++ take waiting rows;
            consumed = Consumes-trans _ _ _ _ _ t.consumed got;
            appended = Appends-trans _ _ _ _ _ t.appended writes;
            same = λ rest.
                ap (listed r p₀) (append_assoc t.read next rest) ∙ t.same (next ++ rest)
                ∙ ap (λ (x : List ℕ). t.written ++ take waiting rows ++ to_say r (record { progress = p; frame = frame }) (x ++ (next ++ rest))) (none_left e)
                ∙ ap (λ (x : List ℕ). x ++ to_say r (record { progress = p; frame = frame }) (next ++ rest)) (sym (append-nil (t.written ++ take waiting rows)));
            waits = omega arith;
            sized = within;
            onward = omega arith;
            roomy = t.roomy;
            counts = λ m. omega (arith, t.counts m, length-append t.read next, length-take-le count piece' within, e);
          }

      -- the piece is listed on
      pub lists : {p' : P} {at' : Place} {frame' rows' : List ℕ} → (taken ≡ size → ⊥) → length rows' ≡ length rows
          → Feeds r (take size piece) (stage p (record { taken = taken; waiting = 0 }) frame rows) (stage p' at' frame' rows')
          → Turned (turns + 1) R W' p' frame' piece rows' size at'.taken at'.waiting
      lists {p'} {at'} {frame'} {rows'} other kept feeds =
          let now = stage p (record { taken = taken; waiting = 0 }) frame rows in
          let next = stage p' at' frame' rows' in
          let long : length (take size piece) ≡ size = length-take-le size piece t.sized in
          let fits : at'.waiting ≤ length rows = feeds.fits (omega arith) in
          let nothing : at'.waiting - 0 ≡ at'.waiting = omega arith in
          let said : (rest : List ℕ) → to_say r (record { progress = p; frame = frame }) (drop taken (take size piece) ++ rest)
          ≡ take at'.waiting rows' ++ to_say r (record { progress = p'; frame = frame' }) (drop at'.taken (take size piece) ++ rest) =
          λ rest. still_to_say {S = State P} r (take size piece) rest now next feeds.comes fits
          ∙ ap (λ (n : ℕ). take n rows' ++ to_say r (record { progress = p'; frame = frame' }) (drop at'.taken (take size piece) ++ rest)) nothing in
          record {
            read = t.read;
            written = t.written ++ take waiting rows;
            consumed = t.consumed;
            appended = Appends-trans _ _ _ _ _ t.appended writes;
            same = λ rest.
                t.same rest
                ∙ ap (λ (x : List ℕ). t.written ++ take waiting rows ++ x) (said rest)
                ∙ sym (append_assoc (t.written ++ take waiting rows) (take at'.waiting rows') _);
            waits = omega (arith, fits, kept);
            sized = t.sized;
            onward = omega (arith, long, within_piece r (take size piece) [] now next feeds.comes fits (omega (arith, long, t.onward)));
            roomy = kept ∙ t.roomy;
            counts = λ m.
                let more : taken < at'.taken = more_taken r (take size piece) [] now next feeds.comes fits most within (omega (arith, t.roomy, m)) (omega (arith, long, t.onward, other)) in
                omega (arith, t.counts m, more, t.onward);
          }

    -- the input has ended
    pub ends : (W' R' W'' : Option (List ℕ)) (piece' : List ℕ) (count : ℕ) → Appends W W' (take waiting rows) → taken ≡ size → count ≡ 0 → Consumes R R' (take count piece') → IsAtEnd R'
        → (most ≤ length rows → Appends W' W'' (r.last (record { progress = p; frame = frame })))
        → IfSome R₀ (λ xs. length xs < 2 ^ 62 → most ≤ 65536 → Appends W₀ W'' (listed r p₀ xs))
    ends W' R' W'' piece' count writes e none got over last =
        Consumes-whole R₀ R' t.read (λ xs. length xs < 2 ^ 62 → most ≤ 65536 → Appends W₀ W'' (listed r p₀ xs))
        (subst (Consumes R₀ R') (append-nil t.read) (Consumes-trans R₀ R R' t.read [] t.consumed (rw none at got))) over
        (λ _ m.
        let all : listed r p₀ t.read ≡ t.written ++ take waiting rows ++ r.last (record { progress = p; frame = frame }) =
        ap (listed r p₀) (sym (append-nil t.read)) ∙ t.same []
        ∙ ap (λ (x : List ℕ). t.written ++ take waiting rows ++ to_say r (record { progress = p; frame = frame }) (x ++ [])) (none_left e)
        ∙ ap (λ (x : List ℕ). t.written ++ take waiting rows ++ x) (said_at_end r (record { progress = p; frame = frame })) in
        rw all (Appends-trans W₀ W' W'' _ _ (Appends-trans W₀ W W' _ _ t.appended writes) (last (omega (arith, t.roomy, m)))))
