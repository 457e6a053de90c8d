-- A command as a request, independent of its arguments' place in memory.
use Rattle.std.specs.Prelude.{ℕ, ◌≤◌, ⊤}
use Rattle.std.specs.Option.{option_map}
use Rattle.road_command.specs.Requests.{Request}
use Rattle.road_command.specs.Requests as request
use Rattle.road_command.specs.declared.command.Command.{Command}
use Rattle.road_command.specs.declared.command.Command.TheVariants as command
use Rattle.road_command.specs.declared.asked.Survey.{Survey}
use Rattle.road_command.specs.declared.kind.KeyKind.{KeyKind}
use Rattle.road_command.specs.declared.kind.KeyKind.TheVariants.{H5, H10}

-- the number that the standard gives to a kind of key
abbrev pub type_of : KeyKind → ℕ
type_of H5 = 5
type_of H10 = 6

abbrev pub survey_shown : Survey → Request
survey_shown asked = request.Survey asked.width asked.seed asked.method asked.queries

abbrev pub shown : Command → Request
shown (command.Route roads from to) = request.Route roads.now from to
shown (command.Root roads fan) = request.Root roads.now fan
shown (command.Dimacs graph places) = request.Dimacs graph.now places.now
shown (command.Key secret kind) = request.Key secret.now (type_of kind)
shown (command.Succeed secret kind) = request.Succeed secret.now (type_of kind)
shown command.Links = request.Links
shown command.Desk = request.Desk
shown (command.Publish roads settings) = request.Publish roads.now settings
shown (command.Prove publication query) = request.Prove publication.now query
shown (command.Serve publication) = request.Serve publication.now
shown (command.ServeSigned publication key chain) = request.ServeSigned publication.now key.now
    (option_map (λ word. word.now) chain)
shown (command.Check key reply query least chain) = request.Check key.now reply.now query least
    (option_map (λ word. word.now) chain)
shown (command.Audit key publication reply query chain) = request.Audit key.now publication.now
    reply.now query (option_map (λ word. word.now) chain)
shown (command.Survey asked) = survey_shown asked
shown (command.Reach publication query) = request.Reach publication.now query
shown (command.CheckReach key reply query least chain) = request.CheckReach key.now reply.now query
    least (option_map (λ word. word.now) chain)
shown (command.AuditReach key publication reply query chain) = request.AuditReach key.now
    publication.now reply.now query (option_map (λ word. word.now) chain)
shown (command.Reduce key text signature) = request.Reduce key.now text.now signature.now

-- the fan-out requested for a root is in the range of a tree's fan-out
abbrev pub HasFan : Command → Type 0
HasFan (command.Root roads fan) = (2 ≤ fan) × (fan ≤ 32)
HasFan asked = ⊤
