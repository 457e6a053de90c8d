mod FrontLemmas
mod OutLemmas
