-- The words that the program is given, as texts.
use Rattle.std.specs.Prelude.{◌≡◌, ◌≢◌, ℕ, ◌^◌, ◌<◌, ◌≤◌, Bool, true, false, List, [], ◌∷◌, codes}
use Rattle.std.specs.Fmt.{decimal}
use Rattle.replay_run.specs.declared.replays.Closing.{Closing}
use Rattle.replay_run.specs.declared.replays.Closing.TheVariants.{Lines, Json}
use Rattle.jarena.specs.declared.words.Asked.{Asked}
use Rattle.jarena.specs.declared.words.Asked.TheVariants.{Nothing, Replay, Soak, Check, Threads}

-- the words of a replay whose counts are told in this form
abbrev pub replay_words : Closing → List (List ℕ)
replay_words Lines = codes "replay" ∷ []
replay_words Json = codes "replay" ∷ codes "--json" ∷ []

-- the words of a soak: its start and how many calls, each as a number is printed
abbrev pub soak_words : ℕ → ℕ → List (List ℕ)
soak_words start calls = codes "soak" ∷ decimal start ∷ decimal calls ∷ []

-- the words of a check
abbrev pub check_words : List (List ℕ)
check_words = codes "check" ∷ []

-- the words of a run of threads, whose journals are printed or not
abbrev pub threads_words : Bool → List (List ℕ)
threads_words false = codes "threads" ∷ []
threads_words true = codes "threads" ∷ codes "--journal" ∷ []

-- the words are exactly `replay`, or `replay --json` where the counts are told as JSON
abbrev pub IsReplay : List (List ℕ) → Closing → Type 0
IsReplay words form = words ≡ replay_words form

-- they are so for no form
abbrev pub IsNoReplay : List (List ℕ) → Type 0
IsNoReplay words = (form : Closing) → IsReplay words form → ⊥

-- the words are exactly `check`
abbrev pub IsCheck : List (List ℕ) → Type 0
IsCheck words = words ≡ check_words

-- the words are exactly `soak START CALLS`, with a start below 2^64 and at most 1000000 calls
abbrev pub IsSoak : List (List ℕ) → ℕ → ℕ → Type 0
IsSoak words start calls = (words ≡ soak_words start calls) × (start < 2 ^ 64) × (calls ≤ 1000000)

-- they are so for no start and no number of calls
abbrev pub IsNoSoak : List (List ℕ) → Type 0
IsNoSoak words = (start : ℕ) (calls : ℕ) → IsSoak words start calls → ⊥

-- the words are exactly `threads`, or `threads --journal` where the journals are printed
abbrev pub IsThreads : List (List ℕ) → Bool → Type 0
IsThreads words with_journals = words ≡ threads_words with_journals

-- they are so in neither way
abbrev pub IsNoThreads : List (List ℕ) → Type 0
IsNoThreads words = (with_journals : Bool) → IsThreads words with_journals → ⊥

-- the words are in no list
abbrev pub IsInNoList : List (List ℕ) → Type 0
IsInNoList words = IsNoReplay words × IsNoSoak words × (words ≢ check_words) × IsNoThreads words

-- the words ask for this
abbrev pub IsAsked : List (List ℕ) → Asked → Type 0
IsAsked words Nothing = IsInNoList words
IsAsked words (Replay form) = IsReplay words form
IsAsked words (Soak start calls) = IsSoak words start calls
IsAsked words Check = IsCheck words
IsAsked words (Threads with_journals) = IsThreads words with_journals
