mod Among
mod StepLemmas
mod TallyLemmas
