-- What is shown of a frame.
use Rattle.std.specs.Prelude.{ℕ, ◌*◌, ◌≡◌, cond, List, [], ◌∷◌, length, ltb}
use Rattle.std.proofs.lemmas.List.Edits.{sets}
use Rattle.frame.specs.Frame.{Body, information, notification, request, response, loopback, organization, Answer, refused, accepted, decode, header_in, number_in}
use Rattle.frame.specs.declared.Header.{Header}
use Rattle.oam_showing.specs.Showing.{Shown, shows, roomy}
use Rattle.oam_showing.specs.Parts.{rows_of, stored_rows}

-- the numbers of a header
abbrev pub header_numbers : ℕ
header_numbers = 5

-- "A reading shows source address, flags, code", the body's fixed number, and how many TLVs were skipped
abbrev pub header_shown : Header → ℕ → Shown
header_shown h number = shows 0 (h.source ∷ h.flags ∷ h.code ∷ number ∷ h.skipped ∷ [])

-- the number at the body's start is the event number, the command or the OUI, else 0
abbrev pub answer_shown : Answer → Shown
answer_shown (refused n) = shows n []
answer_shown (accepted m) = header_shown (header_in m) (number_in m.body)

-- what is shown of a frame where the header has some room
unfoldable pub frame_shown : List ℕ → ℕ → Shown
frame_shown f room = roomy header_numbers 9 room (answer_shown (decode f))

-- What is shown of a frame with its parts: a result, the numbers of the header, and those of rows.
pub record AllShown : Type 0 where
  pub result : ℕ
  pub header : List ℕ
  pub rows : List ℕ

-- the number of a body's parts
abbrev pub count_in : Body → ℕ
count_in (information ps) = length ps
count_in (notification n es) = length es
count_in (request ds) = length ds
count_in (response cs) = length cs
count_in (loopback n) = 0
count_in (organization oui x) = 0

-- a refusal shows nothing
abbrev pub refuses : ℕ → AllShown
refuses n = record { result = n; header = []; rows = [] }

-- The number of all parts stands above the answer's low 8 bits; the first parts are passed over.
abbrev pub answer_all : List ℕ → ℕ → ℕ → Answer → AllShown
answer_all f first room (refused n) = refuses n
answer_all f first room (accepted m) =
    record {
      result = count_in m.body * 256;
      header = (answer_shown (accepted m)).numbers;
      rows = stored_rows first room (rows_of f m.body);
    }

-- what is shown where header and rows have some room
unfoldable pub all_shown : List ℕ → ℕ → ℕ → ℕ → AllShown
all_shown f first header_room room = cond (ltb header_room header_numbers) (refuses 9) (answer_all f first room (decode f))

-- a function that shows all: its result, and the numbers from the start of the two lent slices, the others as they were
pub record ShowingAll (shown : AllShown) (header rows : List ℕ) (result : ℕ) (header_exit rows_exit : List ℕ) : Type 0 where
  pub results : result ≡ shown.result
  pub headed : header_exit ≡ sets header 0 shown.header
  pub stored : rows_exit ≡ sets rows 0 shown.rows
