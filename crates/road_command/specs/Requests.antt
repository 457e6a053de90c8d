-- The grammar of the command line: the command that arguments request.
use Rattle.std.specs.Prelude.{ℕ, nat_le, ◌&&◌, List, [], ◌∷◌, codes, if◌then◌else◌, Option, Some, None}
use Rattle.std.specs.List.{slice_index_or}
use Rattle.std.specs.Str.{bytes_eq}
use Rattle.road_reader.specs.Fields.{natural_of, wide_natural_of, ◌>>=◌}
use Rattle.book_model.specs.declared.items.Query.{Query}
use Rattle.book_model.specs.declared.settings.Settings.{Settings}
use Rattle.proof_octets.specs.declared.query.NearQuery.{NearQuery}

-- a command with its arguments parsed; a name is represented by its octets
pub data Request : Type 0 where
  Route : List ℕ → ℕ → ℕ → Request
  Root : List ℕ → ℕ → Request
  Dimacs : List ℕ → List ℕ → Request
  Key : List ℕ → ℕ → Request
  Succeed : List ℕ → ℕ → Request
  Links : Request
  Desk : Request
  Publish : List ℕ → Settings → Request
  Prove : List ℕ → Query → Request
  Serve : List ℕ → Request
  ServeSigned : List ℕ → List ℕ → Option (List ℕ) → Request
  Check : List ℕ → List ℕ → Query → ℕ → Option (List ℕ) → Request
  Audit : List ℕ → List ℕ → List ℕ → Query → Option (List ℕ) → Request
  Survey : ℕ → ℕ → ℕ → ℕ → Request
  Reach : List ℕ → NearQuery → Request
  CheckReach : List ℕ → List ℕ → NearQuery → ℕ → Option (List ℕ) → Request
  AuditReach : List ℕ → List ℕ → List ℕ → NearQuery → Option (List ℕ) → Request
  Reduce : List ℕ → List ℕ → List ℕ → Request

-- ---- single arguments

-- a fan-out, from 2 to 32
abbrev pub fan_of : List ℕ → Option ℕ
fan_of word = do
  fan ← natural_of word
  if nat_le 2 fan && nat_le fan 32 then Some fan else None

-- the number of a key's type
abbrev pub kind_of : List ℕ → Option ℕ
kind_of word = if bytes_eq word (codes "h5") then Some 5 else if bytes_eq word
    (codes "h10") then Some 6 else None

-- the code of a method
abbrev pub method_of : List ℕ → Option ℕ
method_of word =
    if bytes_eq word (codes "dij") then Some 1
    else if bytes_eq word (codes "full") then Some 2
    else if bytes_eq word (codes "ldm") then Some 3
    else if bytes_eq word (codes "hyp") then Some 4
    else None

-- the number of a leaf order
abbrev pub order_of : List ℕ → Option ℕ
order_of word =
    if bytes_eq word (codes "id") then Some 0
    else if bytes_eq word (codes "breadth") then Some 1
    else if bytes_eq word (codes "depth") then Some 2
    else if bytes_eq word (codes "hilbert") then Some 3
    else if bytes_eq word (codes "kd") then Some 4
    else if bytes_eq word (codes "shuffled") then Some 5
    else None

-- the width of a grid, from 2 to 256
abbrev pub width_of : List ℕ → Option ℕ
width_of word = do
  width ← natural_of word
  if nat_le 2 width && nat_le width 256 then Some width else None

-- the number of queries in a survey, from 1 to 1,000
abbrev pub queries_of : List ℕ → Option ℕ
queries_of word = do
  queries ← natural_of word
  if nat_le 1 queries && nat_le queries 1000 then Some queries else None

-- the ids of the two ends
abbrev pub query_of : List ℕ → List ℕ → Option Query
query_of from to = do
  from ← natural_of from
  to ← natural_of to
  Some (record { from = from; to = to })

-- the id of a node, and a radius around it
abbrev pub near_query_of : List ℕ → List ℕ → Option NearQuery
near_query_of from radius = do
  from ← natural_of from
  radius ← wide_natural_of radius
  Some (record { from = from; radius = radius })

-- a method's three parameters
abbrev pub parameters_of : List ℕ → List ℕ → List ℕ → Option (ℕ × ℕ × ℕ)
parameters_of p1 p2 p3 = do
  p1 ← wide_natural_of p1
  p2 ← wide_natural_of p2
  p3 ← wide_natural_of p3
  Some (p1, p2, p3)

-- the settings with these parameters
abbrev pub settings_of : List ℕ → List ℕ → List ℕ → List ℕ → List ℕ → ℕ × ℕ × ℕ → Option Settings
settings_of method version order seed fan p = do
  method ← method_of method
  version ← wide_natural_of version
  order ← order_of order
  seed ← wide_natural_of seed
  fan ← fan_of fan
  Some (record {
    method = method;
    version = version;
    order = order;
    seed = seed;
    fan = fan;
    p1 = p.0;
    p2 = p.1;
    p3 = p.2;
  })

-- a survey of a grid's width and seed, a method, and the number of queries
abbrev pub survey_of : List ℕ → List ℕ → List ℕ → List ℕ → Option Request
survey_of width seed method queries = do
  width ← width_of width
  seed ← wide_natural_of seed
  method ← method_of method
  queries ← queries_of queries
  Some (Survey width seed method queries)

-- ---- the arguments after a command's name

-- the argument at an index, counted from 0
abbrev pub word_at : List (List ℕ) → ℕ → List ℕ
word_at words index = slice_index_or words index []

-- a road file's name, and the ids of the two ends
abbrev pub route_words : List (List ℕ) → Option Request
route_words (roads ∷ from ∷ to ∷ []) = do
  from ← natural_of from
  to ← natural_of to
  Some (Route roads from to)
route_words _ = None

-- a road file's name, and a fan-out
abbrev pub root_words : List (List ℕ) → Option Request
root_words (roads ∷ fan ∷ []) = do
  fan ← fan_of fan
  Some (Root roads fan)
root_words _ = None

-- the names of a graph's file and of its coordinates' file
abbrev pub dimacs_words : List (List ℕ) → Option Request
dimacs_words (graph ∷ places ∷ []) = Some (Dimacs graph places)
dimacs_words _ = None

-- a secret file's name, and a kind of key
abbrev pub key_words : List (List ℕ) → Option Request
key_words (secret ∷ kind ∷ []) = do
  kind ← kind_of kind
  Some (Key secret kind)
key_words _ = None

-- the same, for the next key
abbrev pub succeed_words : List (List ℕ) → Option Request
succeed_words (secret ∷ kind ∷ []) = do
  kind ← kind_of kind
  Some (Succeed secret kind)
succeed_words _ = None

-- no arguments
abbrev pub links_words : List (List ℕ) → Option Request
links_words [] = Some Links
links_words _ = None

-- no arguments
abbrev pub desk_words : List (List ℕ) → Option Request
desk_words [] = Some Desk
desk_words _ = None

-- a road file's name, the method, the version, the leaf order, its seed, the fan-out, and the
-- method's three parameters
abbrev pub publish_words : List (List ℕ) → Option Request
publish_words (roads ∷ method ∷ version ∷ order ∷ seed ∷ fan ∷ p1 ∷ p2 ∷ p3 ∷ []) = do
  parameters ← parameters_of p1 p2 p3
  settings ← settings_of method version order seed fan parameters
  Some (Publish roads settings)
publish_words _ = None

-- a publication file's name, and the ids of the two ends
abbrev pub prove_words : List (List ℕ) → Option Request
prove_words (publication ∷ from ∷ to ∷ []) = do
  query ← query_of from to
  Some (Prove publication query)
prove_words _ = None

-- a publication file's name; to test the signatures of it and of each later publication, also the name of a public
-- key's file and, optionally, that of a chain file
abbrev pub serve_words : List (List ℕ) → Option Request
serve_words (publication ∷ []) = Some (Serve publication)
serve_words (publication ∷ key ∷ []) = Some (ServeSigned publication key None)
serve_words (publication ∷ key ∷ chain ∷ []) = Some (ServeSigned publication key (Some chain))
serve_words _ = None

-- the names of the files of a public key and of a reply, the ids of the two ends, the minimum version accepted and,
-- optionally, a chain file's name
abbrev pub check_of : List ℕ → List ℕ → List ℕ → List ℕ → List ℕ → Option (List ℕ) → Option Request
check_of key reply from to least chain = do
  query ← query_of from to
  least ← wide_natural_of least
  Some (Check key reply query least chain)

abbrev pub check_words : List (List ℕ) → Option Request
check_words (key ∷ reply ∷ from ∷ to ∷ least ∷ []) = check_of key reply from to least None
check_words (key ∷ reply ∷ from ∷ to ∷ least ∷ chain ∷ []) =
    check_of key reply from to least (Some chain)
check_words _ = None

-- the names of the files of a public key, a publication and a reply, the ids of the two ends and, optionally, a
-- chain file's name
abbrev pub audit_of : List ℕ → List ℕ → List ℕ → List ℕ → List ℕ → Option (List ℕ) → Option Request
audit_of key publication reply from to chain = do
  query ← query_of from to
  Some (Audit key publication reply query chain)

abbrev pub audit_words : List (List ℕ) → Option Request
audit_words (key ∷ publication ∷ reply ∷ from ∷ to ∷ []) = audit_of key publication reply from to
    None
audit_words (key ∷ publication ∷ reply ∷ from ∷ to ∷ chain ∷ []) =
    audit_of key publication reply from to (Some chain)
audit_words _ = None

-- a grid's width and seed, the method, and the number of queries
abbrev pub survey_words : List (List ℕ) → Option Request
survey_words (width ∷ seed ∷ method ∷ queries ∷ []) = survey_of width seed method queries
survey_words _ = None

-- a publication file's name, the id of a node, and a radius
abbrev pub reach_words : List (List ℕ) → Option Request
reach_words (publication ∷ from ∷ radius ∷ []) = do
  query ← near_query_of from radius
  Some (Reach publication query)
reach_words _ = None

-- the names of the files of a public key and of a reply, the id of a node, a radius, the minimum version accepted
-- and, optionally, a chain file's name
abbrev pub check_reach_of : List ℕ → List ℕ → List ℕ → List ℕ → List ℕ → Option (List ℕ) →
    Option Request
check_reach_of key reply from radius least chain = do
  query ← near_query_of from radius
  least ← wide_natural_of least
  Some (CheckReach key reply query least chain)

abbrev pub check_reach_words : List (List ℕ) → Option Request
check_reach_words (key ∷ reply ∷ from ∷ radius ∷ least ∷ []) = check_reach_of key reply from radius
    least None
check_reach_words (key ∷ reply ∷ from ∷ radius ∷ least ∷ chain ∷ []) =
    check_reach_of key reply from radius least (Some chain)
check_reach_words _ = None

-- the names of the files of a public key, a publication and a reply, the id of a node, a radius and, optionally, a
-- chain file's name
abbrev pub audit_reach_of : List ℕ → List ℕ → List ℕ → List ℕ → List ℕ → Option (List ℕ) →
    Option Request
audit_reach_of key publication reply from radius chain = do
  query ← near_query_of from radius
  Some (AuditReach key publication reply query chain)

abbrev pub audit_reach_words : List (List ℕ) → Option Request
audit_reach_words (key ∷ publication ∷ reply ∷ from ∷ radius ∷ []) =
    audit_reach_of key publication reply from radius None
audit_reach_words (key ∷ publication ∷ reply ∷ from ∷ radius ∷ chain ∷ []) =
    audit_reach_of key publication reply from radius (Some chain)
audit_reach_words _ = None

-- the names of the files of a public key, a text and a signature
abbrev pub reduce_words : List (List ℕ) → Option Request
reduce_words (key ∷ text ∷ signature ∷ []) = Some (Reduce key text signature)
reduce_words _ = None

-- the command that arguments request, or none if they fit no command
abbrev pub request_of : List (List ℕ) → Option Request
request_of [] = None
request_of (verb ∷ words) =
    if bytes_eq verb (codes "route") then route_words words
    else if bytes_eq verb (codes "root") then root_words words
    else if bytes_eq verb (codes "dimacs") then dimacs_words words
    else if bytes_eq verb (codes "key") then key_words words
    else if bytes_eq verb (codes "succeed") then succeed_words words
    else if bytes_eq verb (codes "links") then links_words words
    else if bytes_eq verb (codes "desk") then desk_words words
    else if bytes_eq verb (codes "publish") then publish_words words
    else if bytes_eq verb (codes "prove") then prove_words words
    else if bytes_eq verb (codes "serve") then serve_words words
    else if bytes_eq verb (codes "check") then check_words words
    else if bytes_eq verb (codes "audit") then audit_words words
    else if bytes_eq verb (codes "survey") then survey_words words
    else if bytes_eq verb (codes "reach") then reach_words words
    else if bytes_eq verb (codes "check-reach") then check_reach_words words
    else if bytes_eq verb (codes "audit-reach") then audit_reach_words words
    else if bytes_eq verb (codes "reduce") then reduce_words words
    else None
