use Rattle.road_search.proofs.label_setting.search_listed.Goals as goal

pub returns-clause-routes : goal.returns-clause-routes
returns-clause-routes g c = rw c.new.ensures.labels c.in_ok-lacking.ensures.routes
