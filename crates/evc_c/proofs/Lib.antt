mod Grown
mod MonitorSteps
mod Taken
