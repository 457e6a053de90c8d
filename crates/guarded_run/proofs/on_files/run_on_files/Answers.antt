use Rattle.guarded_run.proofs.on_files.run_on_files.Goals as goal

pub returns-clause-lives : goal.returns-clause-lives
returns-clause-lives g c states told life = c.no_key_signs_twice.ensures c.args.disk.now states told life

pub returns-clause-runs : goal.returns-clause-runs
returns-clause-runs g c = c.run_keeping.ensures.runs

pub returns-clause-gone : goal.returns-clause-gone
returns-clause-gone g c h = c.run_keeping.ensures.gone h
