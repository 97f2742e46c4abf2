-- The frames of a script, and the texts of the replies to them.
use Rattle.std.specs.Prelude.{◌≡◌, ◌≢◌, ◌≤◌, ℕ, List, [], ◌∷◌, ◌++◌, length, map, Option, None, Some, IfSome}
use Rattle.std.specs.List.{flat_map, AllByRecursion}
use Rattle.std.specs.Fmt.{decimal}
use Rattle.wif_base.specs.Routes.{route}
use Rattle.wif_base.specs.declared.route.Route.{Route}
use Rattle.wif_base.specs.declared.request.Reply.{Reply}
use Rattle.service_config.specs.declared.config.Config.{Config}
use Rattle.links.specs.declared.entry.Entry.{Entry}
use Rattle.sts_core.specs.Machine.{Answer, step, no_entry}
use Rattle.sts_replies.specs.Replies.{not_found}
use Rattle.sts_serve.specs.declared.frame.Frame.{Frame}

-- ---- frames

-- an ASCII character that is visible
abbrev pub IsVisible : ℕ → Type 0
IsVisible byte = (33 ≤ byte) × (byte ≤ 126)

-- a word of visible characters, at least one and at most so many
abbrev pub IsWord : ℕ → List ℕ → Type 0
IsWord longest text = (1 ≤ length text) × (length text ≤ longest) × AllByRecursion IsVisible text

-- `-` stands for no bearer
abbrev pub IsBearer : List ℕ → Type 0
IsBearer text = IsWord 8192 text × (text ≢ 45 ∷ [])

-- A path, a bearer, a moment and a body of their sizes.
pub record IsFrame (frame : Frame) : Type 0 where
  pub path : IsWord 2048 frame.path
  pub bearer : IfSome frame.bearer IsBearer
  pub moment : frame.moment ≤ 200_000_000_000
  pub body : length frame.body ≤ 65536

-- the word of a bearer, and `-` for none
abbrev pub bearer_text : Option (List ℕ) → List ℕ
bearer_text None = 45 ∷ []
bearer_text (Some text) = text

-- `PATH BEARER MOMENT LENGTH`, a line feed, the body, a line feed
unfoldable pub frame_text : Frame → List ℕ
frame_text frame = frame.path ++ (32 ∷ (bearer_text frame.bearer ++ (32 ∷ (decimal frame.moment
    ++ (32 ∷ (decimal (length frame.body) ++ (10 ∷ (frame.body ++ (10 ∷ [])))))))))

-- the texts of the frames, one after another
abbrev pub script_text : List Frame → List ℕ
script_text frames = flat_map frame_text frames

-- the bytes do not begin with a frame
abbrev pub NoFrame : List ℕ → Type 0
NoFrame bytes = (frame : Frame) (more : List ℕ) → IsFrame frame → bytes ≡ frame_text frame ++ more → ⊥

-- nor do they, however they go on
abbrev pub NeverFrame : List ℕ → Type 0
NeverFrame bytes = (more : List ℕ) → NoFrame (bytes ++ more)

-- Some frame's text goes on from these bytes.
pub record IsFront (bytes : List ℕ) : Type 0 where
  pub frame : Frame
  pub more : List ℕ
  pub is : IsFrame frame
  pub goes_on : frame_text frame ≡ bytes ++ more

-- The bytes begin with these frames, and the rest follows.
pub record ScriptBegins (bytes : List ℕ) (frames : List Frame) (rest : List ℕ) : Type 0 where
  pub whole : bytes ≡ script_text frames ++ rest
  pub each : AllByRecursion IsFrame frames

-- The bytes are these frames, and a rest that does not begin with one.
pub record ScriptSpells (bytes : List ℕ) (frames : List Frame) (rest : List ℕ) : Type 0 where
  pub begins : ScriptBegins bytes frames rest
  pub ended : NoFrame rest

-- ---- replies

-- `STATUS LENGTH`, a line feed, the body, a line feed
unfoldable pub reply_text : Reply → List ℕ
reply_text reply = decimal reply.status ++ (32 ∷ (decimal (length reply.body) ++ (10 ∷ (reply.body ++ (10 ∷ [])))))

-- the texts of the replies
abbrev pub reply_frames : List Reply → List (List ℕ)
reply_frames replies = map reply_text replies

-- A path without a route has its reply, and no step of the machine.
abbrev pub answer_at : Option Route → Config → List Entry → Frame → Answer
answer_at None config journal frame = no_entry not_found
answer_at (Some found) config journal frame = step config journal (record { route = found; bearer = frame.bearer; body = frame.body }) frame.moment

-- the answer to a frame: its path's route, and the machine's answer to the request
abbrev pub answer : Config → List Entry → Frame → Answer
answer config journal frame = answer_at (route frame.path) config journal frame
