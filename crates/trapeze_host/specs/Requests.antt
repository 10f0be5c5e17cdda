-- The requests that were taken, and those that were answered.
use Rattle.std.specs.Prelude.{◌≡◌, ℕ, ◌<◌, ◌*◌, ◌/◌, ◌%◌, Bool, false, ◌==◌, List, [], length, map, slice_index, slice_index_or}
use Rattle.std.specs.Int.{bit_at}
use Rattle.host_rules.specs.States as rules
use Rattle.trapeze_host.specs.declared.requests.Request.{Request}
use Rattle.trapeze_host.specs.declared.requests.Requests.{Requests}

-- a request as the rules name it
abbrev pub request_of : Request → rules.Request
request_of q = record { label = q.label.number; number = q.number }

-- how many labels have requests
abbrev pub labels_of : Requests → ℕ
labels_of r = length r.taken.items

-- the request number of each label
abbrev pub taken_of : Requests → ℕ → ℕ
taken_of r l = slice_index r.taken.items l

-- the marks of a label's requests, a bit for each number
abbrev pub marks_of : Requests → ℕ → List ℕ
marks_of r l = slice_index_or (map (λ words. words.items) r.marks.items) l []

-- the bit of this number is set
abbrev pub is_marked : List ℕ → ℕ → Bool
is_marked words n = bit_at (slice_index words (n / 64)) (n % 64) == 1

-- whether a request was answered
abbrev pub answered_of : Requests → rules.Request → Bool
answered_of r q = is_marked (marks_of r q.label) q.number

-- each label has marks, and a bit for each request that was taken
pub record HasRoom (r : Requests) : Type 0 where
  pub labels : length r.marks.items ≡ labels_of r
  pub bits : (l : ℕ) → l < labels_of r → taken_of r l < 64 * length (marks_of r l)

-- no request of these labels was taken, and none was answered
pub record AreNone (labels : ℕ) (r : Requests) : Type 0 where
  pub labels_are : labels_of r ≡ labels
  pub taken : (l : ℕ) → taken_of r l ≡ 0
  pub answered : (q : rules.Request) → answered_of r q ≡ false
  pub room : HasRoom r
