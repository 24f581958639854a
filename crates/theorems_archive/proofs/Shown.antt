-- What `oam_show` stores of the limit: the written-frames number, which is that of the run, and the digits of which it is the sum.
-- What it stores of the watch, which is that of the counts. And what `oam_receive` stores of the TLVs that were skipped.
use Prim.Native.Nat.{ℕ, ◌≤◌}
use mathlib.Core.Path.{◌≡◌, refl, ap}
use mathlib.Core.List.{List}
use borrow.Author.Tests.{le-ltb}
use lib.ListN.{length, get_or, drop}
use Rattle.octets.specs.Layout.{shortest_frame}
use Rattle.frame.specs.Frame.{Message, accepted, decode, header_in}
use Rattle.frame.specs.declared.Header.{Header}
use Rattle.link_limit.specs.Limit.{frames_of_newest, written_frames}
use Rattle.link_windows.specs.declared.Watch.{Watch}
use Rattle.link_peer.specs.declared.Settings.{Settings}
use Rattle.link_end.specs.declared.End.{End}
use Rattle.link_end.specs.declared.News.{News}
use Rattle.link_end.specs.declared.News.TheVariants.{Nothing, Frame, Events}
use Rattle.link.specs.Hearing.{receive_of}
use Rattle.theorems_windows.specs.Runs.{watch_by, WindowSettings, Accepted as WindowsAccepted, fresh_by}
use Rattle.oam_packing.specs.Numbers.{numbers_of}
use Rattle.oam_packing.specs.Octets.{state_length, unpacked, watch_in}
use Rattle.oam_packing.specs.Watches.{watch_shown}
use Rattle.oam_showing.specs.Showing.{roomy}
use Rattle.oam_showing.specs.Reading.{header_numbers}
use Rattle.theorems_reach.specs.Machine.{Call}
use Rattle.theorems_reach.specs.Runs.{after, history}
use Rattle.theorems_reach.specs.Intervals.{frames_back}
use Rattle.theorems_reach.specs.Premises.{Accepted, AllOfOctets}
use Rattle.theorems_reach.specs.Showing.{Heads}
use Rattle.theorems_reach.proofs.Counting.{run_counts}
use Rattle.theorems_reach.proofs.Heading.{receive_shows}
use Rattle.oam.specs.Machine.{news_shown, received_by, end_numbers, end_shown}
use Rattle.theorems_archive.specs.Entries.{EntryCall, kept_after, calls_in, counts_in, AllOfOctetsIn}
use Rattle.theorems_archive.proofs.Kept.{kept_run, kept_watch}

-- ---- of any end and watch

-- a number that is shown of them, by its place
abbrev shown_at : ℕ → End → Watch → ℕ
shown_at place e w = get_or (end_numbers e w).numbers place 0

-- the written-frames number is the sum of the digits
pub shown_digits : (e : End) (w : Watch) → shown_at 21 e w ≡ frames_of_newest 11 (shown_at 28 e w)
unfolding end_numbers numbers_of written_frames
shown_digits e w = refl

-- and in a run the count over the history
pub shown_counts : (s : Settings) → Accepted s → (cs : List Call) → AllOfOctets cs → (w : Watch) → shown_at 21 (after s cs) w ≡ frames_back 10 (history s cs)
unfolding end_numbers numbers_of
shown_counts s a cs o w = run_counts s a cs o

-- the fourteen numbers from 29 on are those of the watch
pub shown_watch : (e : End) (w : Watch) → drop 29 (end_numbers e w).numbers ≡ watch_shown w
unfolding end_numbers numbers_of
shown_watch e w = refl

-- ---- after any calls of entries: the end is that of the run, and the watch that of the counts, whose numbers `watch_history` gives

module _ (s : Settings) (a : Accepted s) (w : WindowSettings) (b : WindowsAccepted w) (state : List ℕ) (l : length state ≡ state_length) where
  pub shown_run : (xs : List EntryCall) → AllOfOctetsIn xs → (room : ℕ)
      → end_shown (unpacked (kept_after s w state xs)) (watch_in (kept_after s w state xs)) room
      ≡ roomy 43 9 room (end_numbers (after s (calls_in xs)) (watch_by (fresh_by w) (counts_in s xs)))
  shown_run xs o room = rw (kept_run s a w b state l xs o, kept_watch s a w b state l xs o)

-- ---- of an accepted frame, whatever the end

-- the fifth number that `oam_receive` stores is how many TLVs were skipped
pub received_skipped : (f : List ℕ) (m : Message) → decode f ≡ accepted m → (room octets : ℕ) → header_numbers ≤ room → shortest_frame ≤ octets → (e : End)
    → get_or (news_shown (received_by f room octets e).shown).numbers 4 0 ≡ m.skipped
unfolding received_by
received_skipped f m d room octets numbers long e =
    rw (le-ltb room header_numbers numbers) (by_news (receive_of f octets e).shown (receive_shows f m d octets long e))
  where
    by_news : (n : News) → Heads (header_in m) n → get_or (news_shown n).numbers 4 0 ≡ m.skipped
    by_news Nothing h = absurd h
    by_news (Frame g) h = ap (λ (x : Header). x.skipped) h
    by_news (Events g n) h = ap (λ (x : Header). x.skipped) h
